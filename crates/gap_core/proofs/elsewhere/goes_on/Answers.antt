use Rattle.std.proofs.Common.{ap}
use mathlib.Core.Bool.{not}
use Rattle.gap_core.proofs.ElsewhereSteps.{goes_outside}
use Rattle.gap_core.proofs.elsewhere.goes_on.Goals as goal

pub returns-then-not-is_empty : goal.returns-then-not-is_empty
returns-then-not-is_empty c = (λ h. goes_outside c.args.me c.args.body.now _ _ _ c.is_empty.result c.in-Ship.is c.is_empty.ensures c.if-not-is_empty.true, λ h. ap not c.if-not-is_empty.true)
