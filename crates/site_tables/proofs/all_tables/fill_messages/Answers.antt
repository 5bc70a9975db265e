use Rattle.std.proofs.Common.{refl, rules}
use Rattle.site_rows.specs.declared.tables.Table.TheVariants.{Quarantine, Outbox, Seen}
use Rattle.site_tables.specs.Filled.{with_rows}
use Rattle.site_tables.proofs.Whole.{in_all, both_then, then_fails}
use Rattle.site_tables.proofs.all_tables.fill_messages.Goals as goal

pub returns-clause-wrote : goal.returns-clause-wrote
returns-clause-wrote g c =
    let puts = with_rows c.args.rows.now in
    let both = both_then _ _ _ refl c.in_ok-insert_each.was (in_all Quarantine puts (rw c.as_slice.ensures at c.insert_each.ensures.wrote)) (in_all Outbox puts (rw c.as_slice-2.ensures at c.insert_each-2.ensures.wrote)) in
    both_then _ _ _ refl c.in_ok-insert_each-2.was both (in_all Seen puts (rw c.as_slice-3.ensures at c.insert_each-3.ensures.wrote))

pub returns-in_err-insert_each-2-clause-wrote : goal.returns-in_err-insert_each-2-clause-wrote
returns-in_err-insert_each-2-clause-wrote g c =
    let puts = with_rows c.args.rows.now in
    then_fails c.in_ok-insert_each.was c.in_err-insert_each-2.was (search rules) (in_all Quarantine puts (rw c.as_slice.ensures at c.insert_each.ensures.wrote)) (in_all Outbox puts (rw c.as_slice-2.ensures at c.insert_each-2.ensures.wrote))
