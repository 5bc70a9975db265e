-- Behind each step of a trail the captured events that relate its two pairs (GS1 EPCIS 2.0, section 7.4): the first shipment of
-- the item, or of what it lies in, to the other site, with the packings by which it came to lie in that; or the first
-- transformation that takes the one item in, with the first part of it that gives the other one out.
use Rattle.std.specs.Prelude.{◌≡◌, ◌≢◌, ◌⊎◌, ◌≤◌, ◌+◌, ◌-◌, ◌++◌, ℕ, List, [], ◌∷◌, Option, None, Some, length, take, drop, slice_get}
use Rattle.std.specs.List.{AllZip, zip}
use Rattle.std.specs.declared.cmp.Ordering.TheVariants.{Less}
use Rattle.event_json.specs.Events.{Content}
use Rattle.event_json.specs.declared.bodies.Body.{Body}
use Rattle.trace_core.specs.Pairs.{Carries, GivesOut, HaveOneId, IsCarriedWith, IsRelated, Packs, Ships, TakesIn, make_id}
use Rattle.trace_core.specs.Relations.{Chain}
use Rattle.trace_core.specs.Sites.{SiteEvents}
use Rattle.trace_core.specs.declared.pairs.Pair.{Pair}
use Rattle.site_core.specs.ItemSets.{item_cmp}
use Rattle.report_core.specs.EventTimes.{TellsTime}
use Rattle.report_core.specs.declared.packing_events.PackingEvent.{PackingEvent}
use Rattle.report_core.specs.declared.trail_events.CapturedEvent.{CapturedEvent}
use Rattle.report_core.specs.declared.trail_events.ShownSteps.{ShownSteps}
use Rattle.report_core.specs.declared.trail_events.ShownSteps.TheVariants.{Each, First, Last}
use Rattle.report_core.specs.declared.trail_events.StepEvents.{StepEvents}
use Rattle.report_core.specs.declared.trail_events.StepEvents.TheVariants.{Shipped, Made}

-- P holds of the place, and of none before it
abbrev pub IsFirst : (ℕ → Type 0) → ℕ → Type 0
IsFirst P n = P n × ((k : ℕ) → P k → n ≤ k)

-- the first such place; none where it holds of no place
abbrev pub IsFirstOrNone : (ℕ → Type 0) → Option ℕ → Type 0
IsFirstOrNone P None = (k : ℕ) → P k → ⊥
IsFirstOrNone P (Some n) = IsFirst P n

-- at the place, from 0, stands an event that says it
abbrev pub StandsAt : List Content → (Body → Type 0) → ℕ → Type 0
StandsAt events P n = (e : Content) × (slice_get events n ≡ Some e) × P e.body

-- a shipment of the item, or of what it lies in, to the site
abbrev pub ShipsAt : List Content → List ℕ → ℕ → ℕ → Type 0
ShipsAt events item site = StandsAt events (λ b. (carrier : List ℕ) × Ships carrier site b × IsCarriedWith events carrier item)

-- one event, or two parts of one transformation
abbrev pub AreOfOneMake : List Content → ℕ → ℕ → Type 0
AreOfOneMake events n m = (n ≡ m) ⊎ StandsAt events (λ b. StandsAt events (λ c. HaveOneId (make_id b) (make_id c)) m) n

-- the event at the place m gives the item out, as a part of the transformation of the one at n
abbrev pub GivesOutWith : List Content → List ℕ → ℕ → ℕ → Type 0
GivesOutWith events item n m = StandsAt events (GivesOut item) m × AreOfOneMake events n m

-- the event at the place takes the one item in, and a part of its transformation gives the other one out
abbrev pub TakesInAt : List Content → List ℕ → List ℕ → ℕ → Type 0
TakesInAt events i j n = StandsAt events (TakesIn i) n × ((m : ℕ) × GivesOutWith events j n m)

-- what is told of the event at a place: its number, from 1, its eventID and its time
abbrev pub IsEventAt : List Content → ℕ → CapturedEvent → Type 0
IsEventAt events n x = (e : Content) × (slice_get events n ≡ Some e) × (x.number ≡ n + 1) × (x.id ≡ e.id) × TellsTime e.instant x.time

-- what the item goes with by the shipment at the place, which ships each carrier of which `To` tells: the item itself, where
-- that is one, and else the first by key of those that it lies in
pub record IsCarrierBy (events : List Content) (To : List ℕ → Body → Type 0) (item : List ℕ) (n : ℕ) (carrier : List ℕ) : Type 0 where
  pub shipped : StandsAt events (To carrier) n
  pub carried : IsCarriedWith events carrier item
  pub itself : StandsAt events (To item) n → carrier ≡ item
  pub least : (c : List ℕ) → StandsAt events (To c) n → IsCarriedWith events c item → (carrier ≡ item) ⊎ ((carrier ≡ c) ⊎ (item_cmp carrier c ≡ Less))

-- what it goes with to a site
abbrev pub IsCarrierTo : List Content → List ℕ → ℕ → ℕ → List ℕ → Type 0
IsCarrierTo events item site n carrier = IsCarrierBy events (λ c. Ships c site) item n carrier

-- the first event that puts the inner item into the outer one
abbrev pub IsFirstPacking : List Content → List ℕ → List ℕ → CapturedEvent → Type 0
IsFirstPacking events inner outer x = (n : ℕ) × IsFirst (StandsAt events (Packs outer inner)) n × IsEventAt events n x

-- each packing puts the one before it, and the first one the item, into something, by the first event that does; the last one
-- puts it into the carrier, which is the item where there are none
abbrev pub LeadInto : List Content → List ℕ → List PackingEvent → List ℕ → Type 0
LeadInto events item [] carrier = item ≡ carrier
LeadInto events item (x ∷ packings) carrier = IsFirstPacking events item x.into x.event × LeadInto events x.into packings carrier

-- no fewer packings lead from the item into the carrier
abbrev pub AreFewest : List Content → List ℕ → List PackingEvent → List ℕ → Type 0
AreFewest events item packings carrier = (n : ℕ) → Chain (Carries events) carrier n item → length packings ≤ n

-- how the item came to lie in the carrier
abbrev pub ArePackings : List Content → List ℕ → List PackingEvent → List ℕ → Type 0
ArePackings events item packings carrier = LeadInto events item packings carrier × AreFewest events item packings carrier

-- the first shipment of the item, or of what it lies in, to the site, and how it came to lie in what it went with
abbrev pub IsFirstShipment : List Content → List ℕ → ℕ → CapturedEvent → List PackingEvent → Type 0
IsFirstShipment events item site x packings =
    (n : ℕ) × IsFirst (ShipsAt events item site) n × IsEventAt events n x × ((carrier : List ℕ) × IsCarrierTo events item site n carrier × ArePackings events item packings carrier)

-- the first event that takes the one item in for a transformation of the other one, with the first one that gives this out
abbrev pub IsFirstMake : List Content → List ℕ → List ℕ → CapturedEvent → CapturedEvent → Type 0
IsFirstMake events i j taken given =
    (n : ℕ) × IsFirst (TakesInAt events i j) n × IsEventAt events n taken × ((m : ℕ) × IsFirst (GivesOutWith events j n) m × IsEventAt events m given)

-- the first events of the site that relate its item to the pair
abbrev pub RelateFirst : SiteEvents → List ℕ → Pair → StepEvents → Type 0
RelateFirst s item q (Shipped x packings) = (q.site ≢ s.me) × (q.item ≡ item) × IsFirstShipment s.events item q.site x packings
RelateFirst s item q (Made taken given) = (q.site ≡ s.me) × IsFirstMake s.events item q.item taken given

-- the first events that relate a pair to another one, by the site of the first pair's number
abbrev pub TellsStep : List SiteEvents → Pair → Pair → StepEvents → Type 0
TellsStep sites p q events = (s : SiteEvents) × (slice_get sites p.site ≡ Some s) × RelateFirst s p.item q events

-- the steps of a trail: from each pair to the next one
abbrev pub steps_of : List Pair → List (Pair × Pair)
steps_of trail = zip trail (drop 1 trail)

-- the pairs between which those steps of a trail lead that are shown: all of them, the first two, or the last two
abbrev pub pairs_shown : ShownSteps → List Pair → List Pair
pairs_shown Each trail = trail
pairs_shown First trail = take 2 trail
pairs_shown Last trail = drop (length trail - 2) trail

-- along each trail the first events that relate the pairs of each step that is shown, in the order of the steps
abbrev pub AreToldAlong : List SiteEvents → ShownSteps → List (List Pair) → List (List StepEvents) → Type 0
AreToldAlong sites shown trails told =
    AllZip (λ trail events. AllZip (λ step. TellsStep sites step.0 step.1) (steps_of (pairs_shown shown trail)) events) trails told

-- the pairs of a trail, none where there is no trail
abbrev pub or_no_pairs : Option (List Pair) → List Pair
or_no_pairs None = []
or_no_pairs (Some trail) = trail

-- an event of the site of the first pair relates the two
abbrev pub IsRelatedStep : List SiteEvents → Pair → Pair → Type 0
IsRelatedStep sites p q = (s : SiteEvents) × (slice_get sites p.site ≡ Some s) × IsRelated s p.item q

-- the first events that relate the two; none where none does
abbrev pub AnswersStep : List SiteEvents → Pair → Pair → Option StepEvents → Type 0
AnswersStep sites p q None = IsRelatedStep sites p q → ⊥
AnswersStep sites p q (Some events) = TellsStep sites p q events

-- the events of one step more, at the end
abbrev pub AddsTold : List SiteEvents → Pair → Pair → List StepEvents → List StepEvents → Type 0
AddsTold sites p q old new = (events : StepEvents) × (new ≡ old ++ events ∷ []) × TellsStep sites p q events
