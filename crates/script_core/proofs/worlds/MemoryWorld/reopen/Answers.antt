use Rattle.std.proofs.Common.{subst}
use Rattle.world_core.specs.declared.events.Answer.{Answer}
use Rattle.world_core.specs.declared.events.WorldEvent.TheVariants.{Reopen}
use Rattle.script_core.proofs.EventLemmas.{was_opened}
use Rattle.script_core.specs.Events.{Turns}
use Rattle.script_core.proofs.worlds.MemoryWorld.reopen.Goals.{in-Reopened, in_default}
use Rattle.script_core.proofs.worlds.MemoryWorld.reopen.Goals as goal

pub returns-clause-does : goal.returns-clause-does
returns-clause-does c =
    elim c.match-turn.branch [
      | in-Reopened w ↦ rw w.result-is (λ r there. was_opened c.args.self.now c.turn.new.self c.args.site r there
          (subst (λ (a : Answer). Turns c.args.self.now (Reopen c.args.site) a c.turn.new.self) w.in-Reopened.is c.turn.ensures.turns))
      | in_default w ↦ rw w.result-is (λ r there. tt)
    ]
