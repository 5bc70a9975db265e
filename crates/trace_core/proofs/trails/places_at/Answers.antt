use Rattle.std.proofs.Common.{ℕ, ◌+◌, Option, Some, take, sym, ap, subst, ◌∙◌}
use Rattle.std.specs.List.{AllZip}
use Rattle.trace_core.specs.Trails.{IsPlaceOf}
use Rattle.trace_core.proofs.Zips.{zip_more}
use Rattle.trace_core.proofs.trails.places_at.Goals.{in-Some+in_ok-push-in-Some, in-None}
use Rattle.trace_core.proofs.trails.places_at.Goals as goal

pub loop-pair-preserved : goal.loop-pair-preserved
loop-pair-preserved c = elim c.match-place_of.branch [
  | in-Some+in_ok-push-in-Some w ↦
      subst (AllZip (λ p place. IsPlaceOf c.args.steps.now p (Some place)) (take (c.loop-pair.pair-index + 1) c.args.pairs.now)) (sym (ap (λ v. v.items) w.places-is ∙ w.in_ok-push-in-Some.ensures.items))
      (zip_more (λ p place. IsPlaceOf c.args.steps.now p (Some place)) c.args.pairs.now c.loop-pair.places.items c.loop-pair.pair-index c.pair-item.result w.in-Some.place c.loop-pair-test.true c.pair-item.is c.loop-pair.invariant
      (subst (λ (o : Option ℕ). IsPlaceOf c.args.steps.now c.pair-item.result o) w.in-Some.is c.place_of.ensures))
  | in-None w ↦
      absurd (subst (λ (o : Option ℕ). IsPlaceOf c.args.steps.now c.pair-item.result o) w.in-None.is c.place_of.ensures
      (c.requires c.pair-item.result (c.loop-pair.pair-index, c.loop-pair-test.true, sym c.pair-item.is)))
]
