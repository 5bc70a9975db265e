use Rattle.std.proofs.Common.{[], ◌∷◌, ◌++◌, rules, refl}
use Rattle.sqlite.specs.Held.{state}
use Rattle.site_rows.specs.declared.tables.Table.TheVariants.{Quarantine, Outbox, Seen, Parent, Recall}
use Rattle.site_tables.specs.Tables.{before_messages}
use Rattle.site_tables.proofs.BadReads.{clean_before, read_before, read_next, fails_next}
use Rattle.site_tables.proofs.InSchemas.{has_recalls, told_from, told_past}
use Rattle.site_tables.proofs.all_reads.read_recalls.Goals as goal

pub read_table-requires : goal.read_table-requires
read_table-requires c c' = record { has = (has_recalls c'.args.version).0 }

pub read_table-requires-2 : goal.read_table-requires-2
read_table-requires-2 c c' = record { has = (has_recalls c'.args.version).1.0 }

pub returns-in_err-parent-clause-cause : goal.returns-in_err-parent-clause-cause
returns-in_err-parent-clause-cause g c clean before =
    let none = read_before (before_messages c.args.version ++ (Quarantine ∷ Outbox ∷ Seen ∷ [])) (state g.S.Store c.args.conn.now) before in
    fails_next (search rules) none Parent _ (has_recalls c.args.version).0 (told_from c.args.version (Quarantine ∷ Outbox ∷ Seen ∷ []) _ refl) (c.in_err-parent.ensures.cause clean)

pub returns-in_err-recall-clause-cause : goal.returns-in_err-recall-clause-cause
returns-in_err-recall-clause-cause g c clean before =
    let none = read_before (before_messages c.args.version ++ (Quarantine ∷ Outbox ∷ Seen ∷ [])) (state g.S.Store c.args.conn.now) before in
    let early = clean_before c.read_table-2.ensures.crash clean in
    let first = read_next none (Parent ∷ []) (c.in_ok-parent.ensures.same early) c.read_table.ensures.crash ((_, c.in_ok-parent.ensures.rows early), tt) in
    fails_next (search rules) first Recall _ (has_recalls c.args.version).1.0 (told_past c.args.version (Quarantine ∷ Outbox ∷ Seen ∷ []) (Parent ∷ []) _ refl) (c.in_err-recall.ensures.cause clean)
