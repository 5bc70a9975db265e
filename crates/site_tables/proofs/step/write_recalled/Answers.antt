use Rattle.std.proofs.Common.{refl, rules}
use Rattle.site_rows.specs.declared.tables.Table.TheVariants.{Quarantine, Outbox, Seen, Parent}
use Rattle.site_tables.specs.Changed.{put}
use Rattle.site_tables.proofs.Whole.{in_all, both_then, then_fails}
use Rattle.site_tables.proofs.step.write_recalled.Goals as goal

pub returns-clause-wrote : goal.returns-clause-wrote
returns-clause-wrote g c =
    let puts = put c.args.changes.now in
    let outbox = both_then _ _ _ refl c.in_ok-insert_each.was (in_all Quarantine puts (rw c.as_slice.ensures at c.insert_each.ensures.wrote)) (in_all Outbox puts (rw c.as_slice-2.ensures at c.write_each.ensures.wrote)) in
    let seen = both_then _ _ _ refl c.in_ok-write_each.was outbox (in_all Seen puts (rw c.as_slice-3.ensures at c.insert_each-2.ensures.wrote)) in
    both_then _ _ _ refl c.in_ok-insert_each-2.was seen (in_all Parent puts (rw c.as_slice-4.ensures at c.insert_each-3.ensures.wrote))

pub returns-in_err-write_each-clause-wrote : goal.returns-in_err-write_each-clause-wrote
returns-in_err-write_each-clause-wrote g c =
    let puts = put c.args.changes.now in
    then_fails c.in_ok-insert_each.was c.in_err-write_each.was (search rules) (in_all Quarantine puts (rw c.as_slice.ensures at c.insert_each.ensures.wrote)) (in_all Outbox puts (rw c.as_slice-2.ensures at c.write_each.ensures.wrote))

pub returns-in_err-insert_each-2-clause-wrote : goal.returns-in_err-insert_each-2-clause-wrote
returns-in_err-insert_each-2-clause-wrote g c =
    let puts = put c.args.changes.now in
    let outbox = both_then _ _ _ refl c.in_ok-insert_each.was (in_all Quarantine puts (rw c.as_slice.ensures at c.insert_each.ensures.wrote)) (in_all Outbox puts (rw c.as_slice-2.ensures at c.write_each.ensures.wrote)) in
    then_fails c.in_ok-write_each.was c.in_err-insert_each-2.was (search rules) outbox (in_all Seen puts (rw c.as_slice-3.ensures at c.insert_each-2.ensures.wrote))
