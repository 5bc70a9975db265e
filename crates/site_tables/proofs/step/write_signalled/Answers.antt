use Rattle.std.proofs.Common.{refl, rules}
use Rattle.site_rows.specs.declared.tables.Table.TheVariants.{Outbox, Parent, Recall}
use Rattle.site_tables.specs.Changed.{put, dropped}
use Rattle.site_tables.proofs.Parts.{only_dropped}
use Rattle.site_tables.proofs.Whole.{in_all, both_then, all_then, all_same, then_fails}
use Rattle.site_tables.proofs.step.write_signalled.Goals as goal

pub returns-clause-wrote : goal.returns-clause-wrote
returns-clause-wrote g c =
    let drops = dropped c.args.changes.now in
    let parent = both_then _ _ _ refl c.in_ok-write_each.was (in_all Outbox drops (rw c.as_slice.ensures at c.write_each.ensures.wrote)) (in_all Parent drops (rw c.as_slice-2.ensures at c.write_each-2.ensures.wrote)) in
    all_then c.in_ok-write_each-2.was (all_same (only_dropped c.args.changes.now) parent) (in_all Recall (put c.args.changes.now) (rw c.as_slice-3.ensures at c.write_each-3.ensures.wrote))

pub returns-in_err-write_each-2-clause-wrote : goal.returns-in_err-write_each-2-clause-wrote
returns-in_err-write_each-2-clause-wrote g c =
    let drops = dropped c.args.changes.now in
    then_fails c.in_ok-write_each.was c.in_err-write_each-2.was (search rules) (in_all Outbox drops (rw c.as_slice.ensures at c.write_each.ensures.wrote)) (in_all Parent drops (rw c.as_slice-2.ensures at c.write_each-2.ensures.wrote))
