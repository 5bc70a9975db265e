use Rattle.recall_text.specs.State.{State, gathering, running}
use Rattle.script_core.specs.declared.scripts.Script.{Script}
use Rattle.script_core.specs.declared.scripts.Script.TheVariants as scripts

-- the state that a script keeps
abbrev pub state_of : Script → State
state_of (scripts.Gathering sites) = gathering sites
state_of (scripts.Running world) = running world
