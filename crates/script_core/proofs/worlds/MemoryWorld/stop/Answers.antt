use Rattle.std.proofs.Common.{subst}
use Rattle.world_core.specs.declared.events.Answer.{Answer}
use Rattle.world_core.specs.declared.events.WorldEvent.TheVariants.{Stop}
use Rattle.script_core.proofs.EventLemmas.{was_stopped}
use Rattle.script_core.specs.Events.{Turns}
use Rattle.script_core.specs.declared.worlds.Outcome.TheVariants.{Stopped}
use Rattle.script_core.proofs.worlds.MemoryWorld.stop.Goals.{in-Stopped, in_default}
use Rattle.script_core.proofs.worlds.MemoryWorld.stop.Goals as goal

pub returns-clause-does : goal.returns-clause-does
returns-clause-does c =
    elim c.match-turn.branch [
      | in-Stopped w ↦ rw w.result-is (λ old given up there. was_stopped c.args.self.now c.turn.new.self c.args.site old c.args.input c.args.keep given Stopped up there
          (subst (λ (a : Answer). Turns c.args.self.now (Stop c.args.site c.args.input c.args.keep) a c.turn.new.self) w.in-Stopped.is c.turn.ensures.turns))
      | in_default w ↦ rw w.result-is (λ old given up there. tt)
    ]
