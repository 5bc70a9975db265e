-- How the first of those events is found that pass a test.
use Rattle.std.specs.Prelude.{◌≡◌, ◌↔◌, ℕ, List, Option, None, Some, All, Contains, IsTrue, slice_get}
use Rattle.std.specs.BTreeSet.{BTreeSet}
use Rattle.std.specs.Ordering.{nat_cmp}
use Rattle.event_json.specs.Events.{Content}
use Rattle.event_json.specs.declared.bodies.Body.{Body}
use Rattle.event_json.specs.declared.bodies.Body.TheVariants.{Note, Ship, Make, Pack}
use Rattle.trace_core.specs.Groups.{IsPartOf}
use Rattle.trace_core.specs.Pairs.{Carries, GivesOut, IsMadeOf, IsSentTo, TakesIn}
use Rattle.trace_core.specs.PutIn.{filled}
use Rattle.trace_core.specs.Relations.{ReachedFrom}
use Rattle.trace_core.specs.Searches.{IsFound}
use Rattle.trace_core.specs.Sites.{SiteEvents}
use Rattle.trace_core.specs.declared.pairs.Pair.{Pair}
use Rattle.site_core.specs.ItemSets.{item_cmp}
use Rattle.report_core.specs.TrailEvents.{IsEventAt, IsFirstMake, IsFirstShipment, StandsAt, pairs_shown, steps_of}
use Rattle.report_core.specs.Sources.{Among, ArePlaces, ByOne, Index, PutsIn, ShipsItself}
use Rattle.report_core.specs.declared.trail_events.CapturedEvent.{CapturedEvent}
use Rattle.report_core.specs.declared.trail_events.ShownSteps.{ShownSteps}
use Rattle.report_core.specs.declared.trail_events.StepEvents.{StepEvents}
use Rattle.report_core.specs.declared.trail_events.StepEvents.TheVariants.{Shipped, Made}
use Rattle.report_core.specs.declared.makers.EventPlace.{EventPlace}
use Rattle.report_core.specs.declared.wanted_steps.WantedSteps.{WantedSteps}

-- one of the places is this one of its site's, and P holds of it
abbrev pub IsOneOf : (EventPlace → Type 0) → List EventPlace → ℕ → Type 0
IsOneOf P places n = (p : EventPlace) × Contains places p × (p.event ≡ n) × P p

-- a shipment to the site
abbrev pub Goes : ℕ → Body → Type 0
Goes to (Note items) = ⊥
Goes to (Ship items sites outside) = Contains sites to
Goes to (Make id ins outs) = ⊥
Goes to (Pack action parent children) = ⊥

-- the transformation that the event at the place is a part of has its first part at this one
abbrev pub IsGroupAt : List Content → ℕ → EventPlace → ℕ → Type 0
IsGroupAt events number p first = (number ≡ p.site) × IsPartOf events p.event first

-- the event at the place is a part of one of the transformations that have their first parts at these places
abbrev pub IsOfOne : List Content → BTreeSet ℕ → ℕ → Type 0
IsOfOne events firsts n = (first : ℕ) × IsPartOf events n first × IsFound nat_cmp firsts first

-- a shipment of the item, or of what it lies in, to wherever
abbrev pub ShipsOff : List Content → List ℕ → Body → Type 0
ShipsOff events item (Note items) = ⊥
ShipsOff events item (Ship items sites outside) = ReachedFrom (Carries events) items item
ShipsOff events item (Make id ins outs) = ⊥
ShipsOff events item (Pack action parent children) = ⊥

-- of the events of the site these places are those of its shipments, and no others
abbrev pub AreShipments : List Content → ℕ → List ℕ → List EventPlace → Type 0
AreShipments events number item places = (p : EventPlace) → number ≡ p.site → Contains places p ↔ StandsAt events (ShipsOff events item) p.event

-- the event at the place, none where there is none
abbrev pub TellsEvent : List Content → ℕ → Option CapturedEvent → Type 0
TellsEvent events n None = slice_get events n ≡ None
TellsEvent events n (Some x) = IsEventAt events n x

-- the first events that make the one item into the other, none where none does
abbrev pub AnswersMake : List Content → List ℕ → List ℕ → Option StepEvents → Type 0
AnswersMake events i j None = IsMadeOf events i j → ⊥
AnswersMake events i j (Some (Shipped x packings)) = ⊥
AnswersMake events i j (Some (Made taken given)) = IsFirstMake events i j taken given

-- the first shipment of the item to the site, none where none goes there
abbrev pub AnswersShipment : List Content → List ℕ → ℕ → Option StepEvents → Type 0
AnswersShipment events item site None = IsSentTo events item site → ⊥
AnswersShipment events item site (Some (Shipped x packings)) = IsFirstShipment events item site x packings
AnswersShipment events item site (Some (Made taken given)) = ⊥

-- the items of both pairs are among those that are wanted; and where they are one, as in a shipment, shipments are
abbrev pub IsWantedStep : WantedSteps → Pair → Pair → Type 0
IsWantedStep wanted p q =
    IsFound item_cmp wanted.items p.item × IsFound item_cmp wanted.items q.item × (q.item ≡ p.item → IsTrue wanted.ships)

-- so for each step from a pair to the next
abbrev pub AreWanted : WantedSteps → List Pair → Type 0
AreWanted wanted pairs = All (λ step. IsWantedStep wanted step.0 step.1) (steps_of pairs)

-- so for each step that is shown of some trails
abbrev pub AreWantedAlong : WantedSteps → ShownSteps → List (List Pair) → Type 0
AreWantedAlong wanted shown trails = All (λ trail. AreWanted wanted (pairs_shown shown trail)) trails

-- what was wanted still is
abbrev pub StayWanted : WantedSteps → WantedSteps → Type 0
StayWanted old new = (p q : Pair) → IsWantedStep old p q → IsWantedStep new p q

-- an event of the site puts something into the item
abbrev pub IsContainerAt : SiteEvents → List ℕ → Type 0
IsContainerAt s item = (n : ℕ) × StandsAt s.events (λ b. filled b ≡ Some item) n

-- under the items that are wanted, and no others, stand the places of what takes them in, of what gives them out and of what
-- ships them; where shipments are, all that something was put into is among these items, and under each item stand the
-- places of what puts it into something
pub record AreRelatingPlaces (sites : List SiteEvents) (wanted : WantedSteps) (taken given sent packings : Index) : Type 0 where
  pub ins : ArePlaces (Among wanted.items TakesIn) taken sites
  pub outs : ArePlaces (Among wanted.items GivesOut) given sites
  pub off : ArePlaces (Among wanted.items ShipsItself) sent sites
  pub all : IsTrue wanted.ships → (i : List ℕ) → ByOne sites IsContainerAt i → IsFound item_cmp wanted.items i
  pub put : IsTrue wanted.ships → ArePlaces PutsIn packings sites

-- what several sites captured, and the steps of which events are told
pub record Relating : Type 0 where
  pub sites : List SiteEvents
  pub wanted : WantedSteps
