-- The world that a script leaves, as a run of worlds.
use Rattle.std.specs.Prelude.{ℕ, List}
use Rattle.std.specs.Str.Lines.{lines}
use Rattle.world_core.specs.Laws.{ComesOut}
use Rattle.world_core.specs.Turns as world
use Rattle.world_core.specs.declared.events.Answer.{Answer}
use Rattle.world_core.specs.declared.events.WorldEvent.{WorldEvent}
use Rattle.recall_text.specs.Answer.{Said}
use Rattle.recall_text.specs.State.{World, running}
use Rattle.script_core.specs.Runs.{Runs}
use Rattle.script_core.specs.State.{begun_world, empty}

-- from sites at which nothing happened yet, a run of events leads to the world, and what it makes of them comes out
pub record IsOfARun (w : World) : Type 0 where
  pub events : List WorldEvent
  pub answers : List Answer
  pub run : world.Runs (begun_world w.sites).world events answers w.world
  pub out : ComesOut (begun_world w.sites).world events answers w.world

-- Whatever its lines are, a script leaves a world so.
abbrev pub ScriptsRunAWorld : Type 0
ScriptsRunAWorld = (script : List ℕ) (said : List Said) (w : World) → Runs empty (lines script) said (running w) → IsOfARun w
