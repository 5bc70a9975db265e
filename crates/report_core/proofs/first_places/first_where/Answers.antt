use Rattle.std.proofs.Common.{◌+◌, ◌∙◌, take, sym, subst, arith}
use mathlib.Core.Bool.{false≢true}
use Rattle.std.proofs.lemmas.List.{get_or_default}
use Rattle.report_core.specs.TrailEvents.{IsFirstOrNone}
use Rattle.report_core.specs.FirstPlaces.{IsOneOf}
use Rattle.report_core.proofs.FirstFound.{one_passes, one_fails, all_passed}
use Rattle.report_core.proofs.first_places.first_where.Goals.{then-test, else-test}
use Rattle.report_core.proofs.first_places.first_where.Goals as goal

pub loop-place-preserved : goal.loop-place-preserved
loop-place-preserved g c =
    let holds = g.T.PlaceTest.holds c.args.test.now in
    let places = c.args.places.now in
    let i = c.loop-place.place-index in
    elim c.if-test.branch as (λ _. IsFirstOrNone (IsOneOf holds (take (i + 1) places)) c.if-test.first) [
      | then-test w ↦
          subst (λ first. IsFirstOrNone (IsOneOf holds (take (i + 1) places)) first) (sym w.first-is)
          (one_passes holds places i _ c.loop-place-test.true (get_or_default places i _ _ (omega (arith, c.loop-place-test.true))) c.loop-place.first w.lower.result (c.test.ensures.0 w.if-test.true)
          w.lower.ensures.most w.lower.ensures.before w.lower.ensures.one c.loop-place.invariant)
      | else-test w ↦
          subst (λ first. IsFirstOrNone (IsOneOf holds (take (i + 1) places)) first) (sym w.first-is)
          (one_fails holds places i _ c.loop-place-test.true (get_or_default places i _ _ (omega (arith, c.loop-place-test.true))) c.loop-place.first
          (λ h. false≢true (sym w.if-test.false ∙ c.test.ensures.1 h)) c.loop-place.invariant)
    ]

pub returns : goal.returns
returns g c = all_passed (g.T.PlaceTest.holds c.args.test.now) c.args.places.now c.loop-place.place-index c.loop-place.first c.loop-place-test.false c.loop-place.invariant
