use Rattle.std.proofs.Common.{refl, rules}
use Rattle.site_rows.specs.declared.tables.Table.TheVariants.{Event, Part, Pack, Packed}
use Rattle.site_tables.specs.Changed.{put}
use Rattle.site_tables.proofs.Whole.{in_all, both_then, then_fails}
use Rattle.site_tables.proofs.step.write_captured.Goals as goal

pub returns-clause-wrote : goal.returns-clause-wrote
returns-clause-wrote g c =
    let puts = put c.args.changes.now in
    let parts = both_then _ _ _ refl c.in_ok-insert_each.was (in_all Event puts (rw c.as_slice.ensures at c.insert_each.ensures.wrote)) (in_all Part puts (rw c.as_slice-2.ensures at c.insert_each-2.ensures.wrote)) in
    let packs = both_then _ _ _ refl c.in_ok-insert_each-2.was parts (in_all Pack puts (rw c.as_slice-3.ensures at c.insert_each-3.ensures.wrote)) in
    both_then _ _ _ refl c.in_ok-insert_each-3.was packs (in_all Packed puts (rw c.as_slice-4.ensures at c.insert_each-4.ensures.wrote))

pub returns-in_err-insert_each-2-clause-wrote : goal.returns-in_err-insert_each-2-clause-wrote
returns-in_err-insert_each-2-clause-wrote g c =
    let puts = put c.args.changes.now in
    then_fails c.in_ok-insert_each.was c.in_err-insert_each-2.was (search rules) (in_all Event puts (rw c.as_slice.ensures at c.insert_each.ensures.wrote)) (in_all Part puts (rw c.as_slice-2.ensures at c.insert_each-2.ensures.wrote))

pub returns-in_err-insert_each-3-clause-wrote : goal.returns-in_err-insert_each-3-clause-wrote
returns-in_err-insert_each-3-clause-wrote g c =
    let puts = put c.args.changes.now in
    let parts = both_then _ _ _ refl c.in_ok-insert_each.was (in_all Event puts (rw c.as_slice.ensures at c.insert_each.ensures.wrote)) (in_all Part puts (rw c.as_slice-2.ensures at c.insert_each-2.ensures.wrote)) in
    then_fails c.in_ok-insert_each-2.was c.in_err-insert_each-3.was (search rules) parts (in_all Pack puts (rw c.as_slice-3.ensures at c.insert_each-3.ensures.wrote))
