use Rattle.std.proofs.Common.{◌≡◌, ◌↔◌, ◌<◌, subst, arith}
use Rattle.std.specs.List.{Contains}
use Rattle.gap_core.proofs.TellingSteps.{counted_more}
use Rattle.gap_core.proofs.searches.all_places.Goals as goal

pub loop-place-preserved : goal.loop-place-preserved
loop-place-preserved c = counted_more c.loop-place.places.items c.push.new.self.items c.loop-place.place c.loop-place.invariant c.in_ok-push.ensures.items

pub returns : goal.returns
returns c =
    let all : c.loop-place.place ≡ c.args.count = omega (arith, c.loop-place-test.false, c.loop-place.auto.place-end) in
    λ k. subst (λ n. Contains c.loop-place.places.items k ↔ (k < n)) all (c.loop-place.invariant k)
