use Rattle.std.proofs.Common.{sym, subst}
use Rattle.site_core.specs.Stepping.{IsStepped}
use Rattle.site_core.specs.Steps.{Does}
use Rattle.site_core.proofs.Stepping.{stepped}
use Rattle.site_core.proofs.steps.step_copy.Goals as goal

pub returns-clause-done : goal.returns-clause-done
returns-clause-done c = subst (IsStepped c.args.state.now c.args.input.now) (sym c.stepped_to.ensures)
    (stepped c.args.state.now c.apply.new.self c.args.input.now c.in_ok-effects.effects (subst (λ s. Does s c.args.input.now c.in_ok-effects.effects c.apply.new.self) c.in_ok-next.ensures c.in_ok-effects.ensures.done))
