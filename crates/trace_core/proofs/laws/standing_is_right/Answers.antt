use Rattle.std.proofs.Common.{refl}
use Rattle.trace_core.specs.Adding.{standing_among}
use Rattle.trace_core.proofs.Standings.{standing_says}
use Rattle.trace_core.proofs.laws.standing_is_right.Goals as goal

pub returns : goal.returns
returns c = λ events e. standing_says events e (standing_among events e) refl
