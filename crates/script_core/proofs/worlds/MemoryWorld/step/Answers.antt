use Rattle.std.proofs.Common.{subst}
use Rattle.keeper_core.specs.declared.faults.KeepFault.{KeepFault}
use Rattle.world_core.specs.declared.events.Answer.TheVariants.{Fault}
use Rattle.world_core.specs.declared.events.WorldEvent.TheVariants.{Step}
use Rattle.script_core.proofs.EventLemmas.{stepped}
use Rattle.script_core.specs.Events.{Turns}
use Rattle.script_core.specs.declared.worlds.Outcome.TheVariants.{Did, Refused}
use Rattle.script_core.proofs.worlds.MemoryWorld.step.Goals as goal

pub returns-in-Done-clause-does : goal.returns-in-Done-clause-does
returns-in-Done-clause-does c =
    λ old given up there. stepped c.args.self.now c.turn.new.self c.args.site old c.args.input given (Did c.in-Done.effects) up there c.in-Done.ensures.turns

pub returns-in-Fault-Refused-clause-does : goal.returns-in-Fault-Refused-clause-does
returns-in-Fault-Refused-clause-does c =
    λ old given up there. stepped c.args.self.now c.turn.new.self c.args.site old c.args.input given (Refused c.in-Fault-Refused.why) up there
    (subst (λ (f : KeepFault). Turns c.args.self.now (Step c.args.site c.args.input) (Fault f) c.turn.new.self) c.in-Fault-Refused.field-0-is c.in-Fault-Refused.ensures.turns)
