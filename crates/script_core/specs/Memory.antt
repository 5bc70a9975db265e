-- Which lines may run out of memory. All other lines are answered without memory: those that nothing is answered to, and those that are
-- refused with BadLine, Late, NoWorld or, once the world has begun, with BadEpc.
use Rattle.std.specs.Prelude.{ℕ, ⊤, ◌≤◌, List, length, Option, Some, None}
use Rattle.epc_core.specs.Spellings.{IsPlain}
use Rattle.event_json.specs.Sites.{named}
use Rattle.recall_text.specs.State.{State, gathering, running, World}
use Rattle.recall_text.specs.Requests.{Request, Task, reach, recall, Asks}
use Rattle.recall_text.specs.Requests as requests

-- A line at an item prints the name of a site that isn't there, or what is done with a plain text.
abbrev pub ItemTakesMemory : List ℕ → Option ℕ → Type 0
ItemTakesMemory item None = ⊤
ItemTakesMemory item (Some n) = IsPlain item

abbrev pub DoingTakesMemory : World → Task → Type 0
DoingTakesMemory world (reach name item) = ItemTakesMemory item (named world.sites name)
DoingTakesMemory world (recall name item) = ItemTakesMemory item (named world.sites name)
DoingTakesMemory world other = ⊤

-- the first task once two sites stand begins the world
abbrev pub BeginningTakesMemory : State → Type 0
BeginningTakesMemory (gathering sites) = 2 ≤ length sites
BeginningTakesMemory (running world) = ⊥

abbrev pub TaskTakesMemory : State → Task → Type 0
TaskTakesMemory (gathering sites) task = 2 ≤ length sites
TaskTakesMemory (running world) task = DoingTakesMemory world task

abbrev pub SiteTakesMemory : State → Type 0
SiteTakesMemory (gathering sites) = ⊤
SiteTakesMemory (running world) = ⊥

abbrev pub RequestTakesMemory : State → Option Request → Type 0
RequestTakesMemory s None = ⊥
RequestTakesMemory s (Some requests.silent) = ⊥
RequestTakesMemory s (Some (requests.site name addresses)) = SiteTakesMemory s
RequestTakesMemory s (Some (requests.task task)) = TaskTakesMemory s task

-- in this state the line allocates
abbrev pub TakesMemory : State → List ℕ → Type 0
TakesMemory s line = (asked : Option Request) × Asks line asked × RequestTakesMemory s asked
