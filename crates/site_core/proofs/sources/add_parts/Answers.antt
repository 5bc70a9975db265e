use Rattle.std.proofs.Common.{arith}
use Rattle.std.proofs.lemmas.List.{get_or_default}
use Rattle.site_core.proofs.SourcesFound.{place_found, all_parts}
use Rattle.site_core.proofs.sources.add_parts.Goals as goal

pub loop-place-preserved : goal.loop-place-preserved
loop-place-preserved c = place_found c.args.captured.now.events c.deref-place-items.result.now c.loop-place.place-index _ c.args.found.now c.loop-place.found c.add_inputs_at.new.found
    (omega (arith, c.loop-place-test.true)) (get_or_default c.deref-place-items.result.now c.loop-place.place-index 0 _ (omega (arith, c.loop-place-test.true))) c.in_ok-add_inputs_at.ensures c.loop-place.invariant

pub returns : goal.returns
returns c = all_parts c.args.captured.now.events c.args.id.now c.deref-place-items.result.now c.loop-place.place-index c.args.found.now c.loop-place.found (omega (arith, c.loop-place-test.false))
    (rw c.deref-place-items.ensures.value c.in_ok-places.ensures.exact) c.loop-place.invariant
