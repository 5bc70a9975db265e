-- What a quarantine that is closed inside its site tells of the captured parts of a transformation.
use Rattle.std.specs.Prelude.{◌≡◌, ℕ, true, List, Option, Some, None, Any, Contains, IsTrue}
use Rattle.std.specs.BTreeSet.{BTreeSet}
use Rattle.std.specs.List.{list_any}
use Rattle.event_json.specs.Events.{Content}
use Rattle.event_json.specs.declared.bodies.Body.{Body}
use Rattle.frame_core.specs.Identifiers.{recall_cmp}
use Rattle.frame_core.specs.Numbers.{Recall}
use Rattle.trace_core.specs.Pairs.{GivesOut, make_id}
use Rattle.trace_core.specs.Parts.{TakesInAsPart}
use Rattle.trace_core.specs.Places.{IsPartAt}
use Rattle.trace_core.specs.Searches.{IsFound}
use Rattle.trace_core.specs.Sites.{SiteEvents}
use Rattle.trace_core.specs.Spreads.{ins_in}
use Rattle.site_core.specs.Blocks.{holds_outputs}
use Rattle.site_core.specs.Quarantines.{Quarantine, held}

-- under each recall that holds an input of the captured parts of the body's transformation all outputs of the body are quarantined
abbrev pub JoinedAreCovered : SiteEvents → Quarantine → Body → Type 0
JoinedAreCovered s q b = (id i : List ℕ) (r : Recall) → make_id b ≡ Some id → IsTrue (held q r i) → TakesInAsPart s.events id i → holds_outputs q b r ≡ true

-- the recalls that hold some output of the transformation with this id are among those found
abbrev pub CoversAnOutput : List Content → Quarantine → List ℕ → BTreeSet Recall → Type 0
CoversAnOutput events q id found =
    (o : List ℕ) × Any (λ e. (make_id e.body ≡ Some id) × GivesOut o e.body) events × ((r : Recall) → IsTrue (held q r o) → IsFound recall_cmp found r)

-- an event gives the item out, and stands there
abbrev pub GivesAt : Option Content → List ℕ → Type 0
GivesAt None o = ⊥
GivesAt (Some e) o = GivesOut o e.body

-- an event takes in what is quarantined under the recall, and stands there
abbrev pub TakesHeldAt : Option Content → Quarantine → Recall → Type 0
TakesHeldAt None q r = ⊥
TakesHeldAt (Some e) q r = list_any (λ i. held q r i) (ins_in e.body) ≡ true

-- at the places stand parts of one transformation
abbrev pub AreParts : List Content → List ℕ → Type 0
AreParts events places = (id : List ℕ) × ((k : ℕ) → Contains places k → IsPartAt events id k)
