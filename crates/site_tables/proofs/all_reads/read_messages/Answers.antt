use Rattle.std.proofs.Common.{[], ◌∷◌, rules, refl}
use Rattle.sqlite.specs.Held.{state}
use Rattle.site_rows.specs.declared.tables.Table.TheVariants.{Quarantine, Outbox, Seen}
use Rattle.site_tables.specs.Tables.{before_messages}
use Rattle.site_tables.proofs.BadReads.{clean_before, read_before, read_next, fails_next}
use Rattle.site_tables.proofs.InSchemas.{has_messages, told_from, told_past}
use Rattle.site_tables.proofs.all_reads.read_messages.Goals as goal

pub read_table-requires : goal.read_table-requires
read_table-requires c c' = record { has = (has_messages c'.args.version).0 }

pub read_table-requires-2 : goal.read_table-requires-2
read_table-requires-2 c c' = record { has = (has_messages c'.args.version).1.0 }

pub read_table-requires-3 : goal.read_table-requires-3
read_table-requires-3 c c' = record { has = (has_messages c'.args.version).1.1.0 }

pub returns-in_err-quarantine-clause-cause : goal.returns-in_err-quarantine-clause-cause
returns-in_err-quarantine-clause-cause g c clean before =
    let none = read_before (before_messages c.args.version) (state g.S.Store c.args.conn.now) before in
    fails_next (search rules) none Quarantine _ (has_messages c.args.version).0 refl (c.in_err-quarantine.ensures.cause clean)

pub returns-in_err-outbox-clause-cause : goal.returns-in_err-outbox-clause-cause
returns-in_err-outbox-clause-cause g c clean before =
    let none = read_before (before_messages c.args.version) (state g.S.Store c.args.conn.now) before in
    let early = clean_before c.read_table-2.ensures.crash clean in
    let first = read_next none (Quarantine ∷ []) (c.in_ok-quarantine.ensures.same early) c.read_table.ensures.crash ((_, c.in_ok-quarantine.ensures.rows early), tt) in
    fails_next (search rules) first Outbox _ (has_messages c.args.version).1.0 (told_from c.args.version (Quarantine ∷ []) _ refl) (c.in_err-outbox.ensures.cause clean)

pub returns-in_err-seen-clause-cause : goal.returns-in_err-seen-clause-cause
returns-in_err-seen-clause-cause g c clean before =
    let none = read_before (before_messages c.args.version) (state g.S.Store c.args.conn.now) before in
    let later = clean_before c.read_table-3.ensures.crash clean in
    let early = clean_before c.read_table-2.ensures.crash later in
    let first = read_next none (Quarantine ∷ []) (c.in_ok-quarantine.ensures.same early) c.read_table.ensures.crash ((_, c.in_ok-quarantine.ensures.rows early), tt) in
    let second = read_next first (Outbox ∷ []) (c.in_ok-outbox.ensures.same later) c.read_table-2.ensures.crash ((_, c.in_ok-outbox.ensures.rows later), tt) in
    fails_next (search rules) second Seen _ (has_messages c.args.version).1.1.0 (told_past c.args.version (Quarantine ∷ []) (Outbox ∷ []) _ refl) (c.in_err-seen.ensures.cause clean)
