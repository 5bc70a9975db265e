-- What becomes of one event, and by what it is blocked.
use Rattle.std.specs.Prelude.{◌≡◌, ◌≢◌, ◌⊎◌, ◌==◌, ◌||◌, ⊤, ℕ, Bool, true, List, Option, Some, None, Any, Contains, IsTrue, length, slice_get}
use Rattle.std.specs.BTreeSet.{BTreeSet, contains}
use Rattle.std.specs.declared.cmp.Ordering.TheVariants.{Greater}
use Rattle.std.specs.List.{list_all}
use Rattle.event_json.specs.Events.{Content}
use Rattle.event_json.specs.declared.bodies.Body.{Body}
use Rattle.event_json.specs.declared.bodies.Body.TheVariants.{Note, Ship, Make, Pack}
use Rattle.frame_core.specs.Identifiers.{recall_cmp}
use Rattle.frame_core.specs.Numbers.{Recall}
use Rattle.trace_core.specs.Adding.{standing_among}
use Rattle.trace_core.specs.Groups.{outs_of}
use Rattle.trace_core.specs.Pairs.{HaveOneId, make_id}
use Rattle.trace_core.specs.Parts.{TakesInAsPart}
use Rattle.trace_core.specs.Searches.{IsFound}
use Rattle.trace_core.specs.Sites.{SiteEvents}
use Rattle.trace_core.specs.declared.adding.Standing.{Standing}
use Rattle.trace_core.specs.declared.adding.Standing.TheVariants.{Fresh, Known, Taken}
use Rattle.site_core.specs.declared.capturing.CaptureFault.{CaptureFault}
use Rattle.site_core.specs.declared.capturing.CaptureFault.TheVariants as faults
use Rattle.site_core.specs.declared.covering.Covering.{Covering}
use Rattle.site_core.specs.Quarantines.{Quarantine, held}
use Rattle.site_core.specs.Capturing.{IsBlockedBy, IsFirstBlock, IsFree, IsReason, taken, blocked}

-- the least recall by which the event is blocked from the item, or none
abbrev pub IsLeastBlock : SiteEvents → Quarantine → Content → List ℕ → Option Recall → Type 0
IsLeastBlock s q e i None = (r : Recall) → IsBlockedBy s q e i r → ⊥
IsLeastBlock s q e i (Some r) = IsBlockedBy s q e i r × ((other : Recall) → IsBlockedBy s q e i other → recall_cmp r other ≢ Greater)

-- a transformation
abbrev pub IsMaking : Body → Type 0
IsMaking (Note items) = ⊥
IsMaking (Ship items sites outside) = ⊥
IsMaking (Make id ins outs) = ⊤
IsMaking (Pack action parent children) = ⊥

-- a captured part of the transformation with this id takes the item in, or no part of it is captured
abbrev pub IsOldInput : List Content → List ℕ → List ℕ → Type 0
IsOldInput events id i = TakesInAsPart events id i ⊎ (Any (λ e. make_id e.body ≡ Some id) events → ⊥)

-- so it is where the body is a part of a transformation with an id
abbrev pub JoinsAsPart : SiteEvents → Body → List ℕ → Type 0
JoinsAsPart s b i = (id : List ℕ) → make_id b ≡ Some id → IsOldInput s.events id i

-- whether all outputs of the body are quarantined under the recall
abbrev pub holds_outputs : Quarantine → Body → Recall → Bool
holds_outputs q (Note items) r = true
holds_outputs q (Ship items sites outside) r = true
holds_outputs q (Make id ins outs) r = list_all (λ j. held q r j) outs
holds_outputs q (Pack action parent children) r = true

-- under each of these recalls they are
abbrev pub CoverOutputs : Quarantine → Body → BTreeSet Recall → Type 0
CoverOutputs q b found = (r : Recall) → IsFound recall_cmp found r → holds_outputs q b r ≡ true

-- so it is of the outputs of the event at a place, if one stands there
abbrev pub holds_at : Quarantine → Option Content → Recall → Bool
holds_at q None r = true
holds_at q (Some e) r = holds_outputs q e.body r

-- the places are those of all captured parts of the body's transformation, and maybe others
abbrev pub HasAllParts : List Content → Body → List ℕ → Type 0
HasAllParts events b places = (k : ℕ) (e : Content) → slice_get events k ≡ Some e → HaveOneId (make_id b) (make_id e.body) → Contains places k

-- under each of these recalls all outputs of the body's transformation are quarantined: its own, and those of its captured parts
abbrev pub CoverParts : List Content → Quarantine → Body → BTreeSet Recall → Type 0
CoverParts events q b found = (r : Recall) → IsFound recall_cmp found r → (j : List ℕ) → outs_of events j b ≡ true → IsTrue (held q r j)

-- what was found of the body's transformation: recalls of its own outputs, and of the outputs of all its parts
pub record Covers (events : List Content) (q : Quarantine) (b : Body) (covering : Covering) : Type 0 where
  pub own : CoverOutputs q b covering.own
  pub all : CoverParts events q b covering.all

-- whether the body has no outputs, or the recall is one of these
abbrev pub is_covered : BTreeSet Recall → Body → Recall → Bool
is_covered found (Note items) r = true
is_covered found (Ship items sites outside) r = true
is_covered found (Make id ins outs) r = length outs == 0 || contains recall_cmp found r
is_covered found (Pack action parent children) r = true

-- the least recall by which it is blocked, with the item
abbrev pub IsBlockFrom : SiteEvents → Quarantine → Content → List ℕ → Option (Recall × List ℕ) → Type 0
IsBlockFrom s q e i None = IsLeastBlock s q e i None
IsBlockFrom s q e i (Some (r, j)) = (j ≡ i) × IsLeastBlock s q e i (Some r)

-- by what the event is blocked first, if it is
abbrev pub IsFirstBlockOf : SiteEvents → Quarantine → Content → Option (Recall × List ℕ) → Type 0
IsFirstBlockOf s q e None = IsFree s q e
IsFirstBlockOf s q e (Some (r, i)) = IsFirstBlock s q e i r

-- the event stands so, and nothing refuses it
abbrev pub Passes : SiteEvents → Quarantine → Content → Standing → Type 0
Passes s q e Fresh = (standing_among s.events e ≡ Fresh) × IsFree s q e
Passes s q e Known = standing_among s.events e ≡ Known
Passes s q e Taken = ⊥

-- the event, whose number this is, is refused for the reason that the fault names
abbrev pub Refuses : SiteEvents → Quarantine → Content → ℕ → CaptureFault → Type 0
Refuses s q e number faults.NoMemory = ⊤
Refuses s q e number (faults.IdTaken event) = (event ≡ number) × IsReason s q e taken
Refuses s q e number (faults.Blocked r i event) = (event ≡ number) × IsReason s q e (blocked r i)
