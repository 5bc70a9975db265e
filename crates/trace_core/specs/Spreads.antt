-- What is made of items inside one site, and what one more event adds.
use Rattle.std.specs.Prelude.{◌≤◌, ◌+◌, ◌-◌, ◌^◌, ◌||◌, ℕ, Bool, cond, min, List, [], ◌∷◌, ◌++◌, Option, Some, None, length, Contains, sum_by}
use Rattle.std.specs.List.{list_any}
use Rattle.std.specs.List.Sorted.{IsStrictlySortedBy}
use Rattle.std.specs.Ordering.{nat_cmp}
use Rattle.std.specs.Cmp.Lexicographic.{slice_cmp}
use Rattle.event_json.specs.Events.{Content}
use Rattle.event_json.specs.declared.bodies.Body.{Body}
use Rattle.event_json.specs.declared.bodies.Body.TheVariants.{Note, Ship, Make, Pack}
use Rattle.trace_core.specs.declared.pairs.Pair.{Pair}
use Rattle.trace_core.specs.Gathering.{joins}
use Rattle.trace_core.specs.Pairs.{IsMade, IsRelated}
use Rattle.trace_core.specs.PairTests.{takes_in}
use Rattle.trace_core.specs.Relations.{ReachedFrom}
use Rattle.trace_core.specs.Sites.{SiteEvents}

-- each item is below those after it, so none comes twice
abbrev pub AreAscendingItems : List (List ℕ) → Type 0
AreAscendingItems items = IsStrictlySortedBy (slice_cmp nat_cmp) items

-- a related pair that stays in the site
abbrev pub Inside : SiteEvents → List ℕ → List ℕ → Type 0
Inside s i j = IsRelated s i (record { site = s.me; item = j })

-- the item is at the end of a chain of related pairs that begins in the given items and stays in the site
abbrev pub IsSpread : SiteEvents → List (List ℕ) → List ℕ → Type 0
IsSpread s items j = ReachedFrom (Inside s) items j

-- the parent, where there is one
abbrev pub parents : Option (List ℕ) → List (List ℕ)
parents None = []
parents (Some p) = p ∷ []

-- the items that an event names
abbrev pub items_of : Body → List (List ℕ)
items_of (Note items) = items
items_of (Ship items sites outside) = items
items_of (Make id ins outs) = ins ++ outs
items_of (Pack action parent children) = parents parent ++ children

-- the inputs of a transformation
abbrev pub ins_in : Body → List (List ℕ)
ins_in (Note items) = []
ins_in (Ship items sites outside) = []
ins_in (Make id ins outs) = ins
ins_in (Pack action parent children) = []

-- how many output members an event has
abbrev pub output_count : Body → ℕ
output_count (Note items) = 0
output_count (Ship items sites outside) = 0
output_count (Make id ins outs) = length outs
output_count (Pack action parent children) = 0

-- the list has each item that an event of the site names
abbrev pub HasEachItem : SiteEvents → List (List ℕ) → Type 0
HasEachItem s known = (e : Content) (i : List ℕ) → Contains s.events e → Contains (items_of e.body) i → Contains known i

-- one of the items goes into the event's transformation: it is an input of the event, or of one with its transformationID
abbrev pub takes_some : List Content → List (List ℕ) → Body → Bool
takes_some events items b = list_any (λ i. takes_in i b || joins events i b) items

-- how many output members the transformations have that one of the items goes into, all parts together
abbrev pub outputs_from : List Content → List (List ℕ) → ℕ
outputs_from events items = sum_by (λ e. cond (takes_some events items e.body) (output_count e.body) 0) events

-- looks are at least the items found, and each output member of what they go into, where the count didn't end at 2^64 - 1;
-- at most the items given, the items known and all output members of all transformations
pub record AreLooks (s : SiteEvents) (given found : List (List ℕ)) (looks : ℕ) : Type 0 where
  pub least : length found ≤ looks
  pub outputs : min (length found + outputs_from s.events found) (2 ^ 64 - 1) ≤ looks
  pub most : (known : List (List ℕ)) → HasEachItem s known → looks ≤ length given + length known + sum_by (λ e. output_count e.body) s.events

-- the site with one more event
abbrev pub with_event : SiteEvents → Content → SiteEvents
with_event s e = record s { events = s.events ++ e ∷ [] }

-- adding the event would make the pair of the item, and nothing makes it yet
abbrev pub IsNewlyMade : SiteEvents → Content → List ℕ → Pair → Type 0
IsNewlyMade s e i q = IsMade (with_event s e) i q × (IsMade s i q → ⊥)

-- adding the event would relate the item to the pair, and nothing relates it yet
abbrev pub IsNewTarget : SiteEvents → Content → List ℕ → Pair → Type 0
IsNewTarget s e i q = IsRelated (with_event s e) i q × (IsRelated s i q → ⊥)
