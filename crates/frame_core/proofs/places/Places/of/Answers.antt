use Rattle.std.proofs.Common.{refl}
use Rattle.std.specs.Ordering.{nat_cmp}
use Rattle.frame_core.specs.Tables.{as_map}
use Rattle.frame_core.proofs.Ascending.{ascending_keys}
use Rattle.frame_core.proofs.Maps.{map_entries}
use Rattle.frame_core.proofs.Placing.{lists_none, not_listed_yet, lists_one_more, lists_all}
use Rattle.frame_core.proofs.places.Places.of.Goals as goal

pub loop-number-init : goal.loop-number-init
loop-number-init c = lists_none _ _ _ c.into_iter-number-iterator.ensures.into_iter_gives.0 c.new-places.ensures

pub loop-number-preserved : goal.loop-number-preserved
loop-number-preserved c =
    let up = ascending_keys nat_cmp c.args.rows.now.entries c.into_iter-number-iterator.ensures.into_iter_gives.5 in
    let h = c.loop-number.invariant in
    lists_one_more _ _ _ c.loop-number.places _ c.in-Some.number.now c.in-Some.row.now h up c.in-Some.ensures.steps
    (c.list.ensures h.rows c.in-Some.row.now h.listed (not_listed_yet _ _ _ c.loop-number.places c.list.new.self _ _ h up c.in-Some.ensures.steps) refl)

pub returns : goal.returns
returns c = lists_all (as_map nat_cmp c.args.rows.now) _ _ _ (map_entries nat_cmp c.args.rows.now c.into_iter-number-iterator.ensures.into_iter_gives.5) c.loop-number.invariant c.in-None.ensures.steps.0
