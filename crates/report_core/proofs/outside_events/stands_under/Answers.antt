use Rattle.std.proofs.Common.{subst, sym}
use mathlib.Core.Bool.{false≢true}
use Rattle.std.specs.List.{Contains}
use Rattle.report_core.proofs.FirstUnder.{isnt_among}
use Rattle.report_core.proofs.outside_events.stands_under.Goals as goal

pub returns-in-None : goal.returns-in-None
returns-in-None c = (
  λ h. absurd (false≢true h),
  λ kept. absurd (isnt_among c.args.place c.places_under.result.now c.in-None.ensures (subst (λ ps. Contains ps c.args.place) (sym c.places_under.ensures) kept)),
)
