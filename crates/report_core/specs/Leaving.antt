-- How it is found what shipped an item out of the traced sites.
use Rattle.std.specs.Prelude.{◌≡◌, ◌↔◌, ◌⊎◌, ◌++◌, ℕ, List, [], ◌∷◌, Option, None, Some, All, Contains, IsTrue, slice_get}
use Rattle.event_json.specs.Events.{Content}
use Rattle.event_json.specs.declared.bodies.Body.{Body}
use Rattle.event_json.specs.declared.bodies.Body.TheVariants.{Note, Ship, Make, Pack}
use Rattle.trace_core.specs.Searches.{IsFound}
use Rattle.trace_core.specs.Sites.{SiteEvents}
use Rattle.trace_core.specs.declared.pairs.Pair.{Pair}
use Rattle.site_core.specs.ItemSets.{item_cmp}
use Rattle.report_core.specs.OutsideEvents.{ShipsOutAt, ShowsOut, TellsOutside}
use Rattle.report_core.specs.Sources.{ByOne, Index, Keeps}
use Rattle.report_core.specs.TrailEvents.{IsFirst}
use Rattle.report_core.specs.declared.makers.EventPlace.{EventPlace}
use Rattle.report_core.specs.declared.outside.OutsideShipment.{OutsideShipment}
use Rattle.report_core.specs.declared.outside_events.OutsideEvent.{OutsideEvent}
use Rattle.report_core.specs.declared.wanted_steps.WantedSteps.{WantedSteps}

-- the item is one of those that are wanted, and so are shipments
abbrev pub IsWantedItem : WantedSteps → List ℕ → Type 0
IsWantedItem wanted item = IsFound item_cmp wanted.items item × IsTrue wanted.ships

-- so for the item of each of these shipments
abbrev pub AreWantedOut : WantedSteps → List OutsideShipment → Type 0
AreWantedOut wanted outside = All (λ (x : OutsideShipment). IsWantedItem wanted x.item) outside

-- a shipment to the destination
abbrev pub LeavesFor : List ℕ → Body → Type 0
LeavesFor destination (Note items) = ⊥
LeavesFor destination (Ship items sites outside) = Contains outside destination
LeavesFor destination (Make id ins outs) = ⊥
LeavesFor destination (Pack action parent children) = ⊥

-- the place stands under the item of the pair
abbrev pub StandsUnder : Index → Pair → EventPlace → Type 0
StandsUnder index c p = Keeps index (c.item, p)

-- these are all the places that stand under the items of the pairs
abbrev pub AreUnderEach : Index → List Pair → List EventPlace → Type 0
AreUnderEach index carriers places = (p : EventPlace) → Contains places p ↔ ByOne carriers (StandsUnder index) p

-- the place stands under the item of the pair that stands at k
abbrev pub UnderAt : Index → EventPlace → List Pair → ℕ → Type 0
UnderAt index place carriers k = (c : Pair) × (slice_get carriers k ≡ Some c) × StandsUnder index c place

-- the item itself, where the place stands under it, and else that of the first of the pairs under whose item it stands
abbrev pub IsLeftWith : Index → EventPlace → List ℕ → List Pair → Option (List ℕ) → Type 0
IsLeftWith index place item carriers None = (k : ℕ) → UnderAt index place carriers k → ⊥
IsLeftWith index place item carriers (Some carrier) =
    (Keeps index (item, place) × (carrier ≡ item))
    ⊎ ((Keeps index (item, place) → ⊥) × ((k : ℕ) × IsFirst (UnderAt index place carriers) k × ((c : Pair) × (slice_get carriers k ≡ Some c) × (c.item ≡ carrier))))

-- what shows that the item went to the destination; none where it didn't
abbrev pub AnswersLeaving : List Content → List ℕ → List ℕ → Option OutsideEvent → Type 0
AnswersLeaving events item destination None = (n : ℕ) → ShipsOutAt events item destination n → ⊥
AnswersLeaving events item destination (Some x) = ShowsOut events item destination x

-- an event of the site of its number ships the item, or what it lies in, there
abbrev pub IsShippedOut : List SiteEvents → OutsideShipment → Type 0
IsShippedOut sites x = (s : SiteEvents) × (slice_get sites x.site ≡ Some s) × ((n : ℕ) × ShipsOutAt s.events x.item x.destination n)

-- what shows it; none where none does
abbrev pub AnswersOutside : List SiteEvents → OutsideShipment → Option OutsideEvent → Type 0
AnswersOutside sites x None = IsShippedOut sites x → ⊥
AnswersOutside sites x (Some told) = TellsOutside sites x told

-- what shows one shipment more, at the end
abbrev pub AddsOutside : List SiteEvents → OutsideShipment → List OutsideEvent → List OutsideEvent → Type 0
AddsOutside sites x old new = (told : OutsideEvent) × (new ≡ old ++ told ∷ []) × TellsOutside sites x told
