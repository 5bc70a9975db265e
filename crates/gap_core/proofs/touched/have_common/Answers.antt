use Rattle.std.proofs.Common.{◌∙◌, refl, sym, arith}
use mathlib.Core.Bool.{false≢true}
use Rattle.gap_core.proofs.TouchedSteps.{common_found, none_common, none_yet, one_more_none}
use Rattle.gap_core.proofs.touched.have_common.Goals as goal

pub loop-place-init : goal.loop-place-init
loop-place-init c = none_yet c.args.inside.now c.args.wanted.now

pub loop-place-preserved : goal.loop-place-preserved
loop-place-preserved c =
    one_more_none c.args.inside.now c.args.wanted.now c.loop-place.place c.loop-place.invariant (λ common. false≢true (sym c.if-is_common_at.false ∙ c.is_common_at.ensures.1 common))

pub returns-then-is_common_at : goal.returns-then-is_common_at
returns-then-is_common_at c = (λ h. common_found c.args.inside.now c.args.wanted.now c.loop-place.place (c.is_common_at.ensures.0 c.if-is_common_at.true), λ h. refl)

pub returns : goal.returns
returns c = (
  λ h. absurd (false≢true h),
  λ common. absurd (none_common c.args.inside.now c.args.wanted.now c.loop-place.place (omega (arith, c.loop-place-test.false, c.len-place-end.ensures)) c.loop-place.invariant common),
)
