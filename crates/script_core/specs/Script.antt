-- The answer to each line of a script, and what it leaves.
use Rattle.std.specs.Prelude.{◌≡◌, ℕ, List, codes, Option, Some, None}
use Rattle.event_json.specs.Sites.{sites_fault}
use Rattle.recall_text.specs.Answer.{Said, silent, refused}
use Rattle.recall_text.specs.Gathering.{site_added}
use Rattle.recall_text.specs.Requests.{Request, Task, Asks}
use Rattle.recall_text.specs.Requests as requests
use Rattle.recall_text.specs.State.{State, gathering, running}
use Rattle.script_core.specs.State.{begun}
use Rattle.script_core.specs.Tasks.{DoesTask}

-- ---- `site`: while sites are gathered, a site is added

abbrev pub site_outcome : State → List ℕ → List (List ℕ) → Said × State
site_outcome (gathering sites) name addresses = site_added sites name addresses (sites_fault sites name addresses)
site_outcome (running world) name addresses = (refused (codes "Late"), running world)

-- ---- a line

-- The check of all tasks: they are refused while sites are gathered.
abbrev pub Passes : State → Task → Said → State → Type 0
Passes (gathering sites) task said t = (said ≡ refused (codes "NoWorld")) × (t ≡ gathering sites)
Passes (running world) task said (gathering sites) = ⊥
Passes (running world) task said (running after) = DoesTask world task said after

-- a line that can't be read, and then each request; the first task once two sites stand begins the world
abbrev pub TakesRequest : State → Option Request → Said → State → Type 0
TakesRequest s None said t = (said ≡ refused (codes "BadLine")) × (t ≡ s)
TakesRequest s (Some requests.silent) said t = (said ≡ silent) × (t ≡ s)
TakesRequest s (Some (requests.site name addresses)) said t = (said, t) ≡ site_outcome s name addresses
TakesRequest s (Some (requests.task task)) said t = Passes (begun s) task said t

-- in this state the line has this answer, and leaves that state
abbrev pub Takes : State → List ℕ → Said → State → Type 0
Takes s line said t = (asked : Option Request) × Asks line asked × TakesRequest s asked said t
