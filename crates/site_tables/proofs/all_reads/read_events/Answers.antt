use Rattle.std.proofs.Common.{[], ◌∷◌, rules, refl}
use Rattle.sqlite.specs.Held.{state}
use Rattle.site_rows.specs.declared.tables.Table.TheVariants.{Store, Site, Address, Event, Part}
use Rattle.site_tables.proofs.BadReads.{clean_before, read_before, read_next, fails_next}
use Rattle.site_tables.proofs.InSchemas.{has_events}
use Rattle.site_tables.proofs.all_reads.read_events.Goals as goal

pub read_table-requires : goal.read_table-requires
read_table-requires c c' = record { has = (has_events c'.args.version).0 }

pub read_table-requires-2 : goal.read_table-requires-2
read_table-requires-2 c c' = record { has = (has_events c'.args.version).1.0 }

pub returns-in_err-event-clause-cause : goal.returns-in_err-event-clause-cause
returns-in_err-event-clause-cause g c clean before =
    let none = read_before (Store ∷ Site ∷ Address ∷ []) (state g.S.Store c.args.conn.now) before in
    fails_next (search rules) none Event _ (has_events c.args.version).0 refl (c.in_err-event.ensures.cause clean)

pub returns-in_err-part-clause-cause : goal.returns-in_err-part-clause-cause
returns-in_err-part-clause-cause g c clean before =
    let none = read_before (Store ∷ Site ∷ Address ∷ []) (state g.S.Store c.args.conn.now) before in
    let early = clean_before c.read_table-2.ensures.crash clean in
    let first = read_next none (Event ∷ []) (c.in_ok-event.ensures.same early) c.read_table.ensures.crash ((_, c.in_ok-event.ensures.rows early), tt) in
    fails_next (search rules) first Part _ (has_events c.args.version).1.0 refl (c.in_err-part.ensures.cause clean)
