use Rattle.std.proofs.Common.{sym, arith}
use Rattle.std.proofs.lemmas.List.{get_or_default}
use Rattle.site_core.proofs.JoinedParts.{output_found}
use Rattle.site_core.proofs.joined.an_output.Goals as goal

pub returns-in-Some : goal.returns-in-Some
returns-in-Some c = output_found c.args.captured.now.events c.args.id.now c.in-Some.item.now c.deref-place-items.result.now _ (rw c.deref-place-items.ensures.value c.in_ok-places.ensures.exact)
    (c.loop-place.place-index, omega (arith, c.loop-place-test.true), sym (get_or_default c.deref-place-items.result.now c.loop-place.place-index 0 _ (omega (arith, c.loop-place-test.true)))) c.in-Some.ensures
