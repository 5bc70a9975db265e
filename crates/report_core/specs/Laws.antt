-- What a report, an audit and a trace say once a recall has ended, that records have one verdict, one trace and one trace back,
-- and what a trace of an item with what lies in it has.
use Rattle.std.specs.Prelude.{◌≡◌, ◌↔◌, ◌⊎◌, ◌<◌, ◌+◌, ℕ, Option, Some, option_map, IsSome, List, length, map, slice_get, Contains}
use Rattle.event_json.specs.Events.{Content}
use Rattle.frame_core.specs.Numbers.{Recall}
use Rattle.trace_core.specs.Chains.{Related}
use Rattle.trace_core.specs.Pairs.{IsCarriedWith}
use Rattle.trace_core.specs.Relations.{Reaches}
use Rattle.trace_core.specs.Sites.{SiteEvents}
use Rattle.trace_core.specs.Trails.{IsTrail}
use Rattle.trace_core.specs.declared.pairs.Pair.{Pair}
use Rattle.site_core.specs.Records.{Record}
use Rattle.site_core.specs.Steps.{Refuses}
use Rattle.site_core.specs.declared.inputs.SiteInput.TheVariants.{Start}
use Rattle.site_core.specs.declared.outcomes.Refusal.TheVariants as refusals
use Rattle.site_recovery.specs.Fit.{Fit, IsEnded}
use Rattle.site_recovery.specs.Laws.{AreInPlace, captured_of}
use Rattle.site_recovery.specs.Looks.{World, world_of}
use Rattle.site_recovery.specs.Recalls.{quarantined}
use Rattle.report_core.specs.Outside.{ShipsOut}
use Rattle.report_core.specs.OutsideEvents.{AreToldOutside}
use Rattle.report_core.specs.Reports.{IsReport}
use Rattle.report_core.specs.Traces.{IsBackTrace, IsContentsTrace, IsKnownAt, IsTrace, TellsTraceFault}
use Rattle.report_core.specs.Verdicts.{IsVerdict}
use Rattle.report_core.specs.declared.audits.Verdict.{Verdict}
use Rattle.report_core.specs.declared.audits.Verdict.TheVariants.{Equal}
use Rattle.report_core.specs.declared.faults.TraceFault.TheVariants.{UnknownItem}
use Rattle.report_core.specs.declared.outside.OutsideShipment.{OutsideShipment}
use Rattle.report_core.specs.declared.outside_events.OutsideEvent.{OutsideEvent}
use Rattle.report_core.specs.declared.reports.RecallReport.{RecallReport}
use Rattle.report_core.specs.declared.traces.BackTrace.{BackTrace}
use Rattle.report_core.specs.declared.traces.Trace.{Trace}

-- Where the sites are consistent and the recall has ended, the audit finds just the pairs in reach.
abbrev pub EndsAreEqual : Type 0
EndsAreEqual =
    (records : List Record) (recall : Recall) (verdict : Verdict) → AreInPlace records → Fit (world_of records) → IsEnded (world_of records) recall
    → IsVerdict records recall verdict → verdict ≡ Equal (length (quarantined recall records))

-- So a trail leads to each pair of its report.
abbrev pub EndsHaveTrails : Type 0
EndsHaveTrails =
    (records : List Record) (recall : Recall) (report : RecallReport) → AreInPlace records → Fit (world_of records) → IsEnded (world_of records) recall
    → IsReport records recall report → (t : Option (List Pair)) → Contains report.trails t → IsSome t

-- The records have one verdict on a recall.
abbrev pub OneVerdict : Type 0
OneVerdict = (records : List Record) (recall : Recall) (v w : Verdict) → IsVerdict records recall v → IsVerdict records recall w → v ≡ w

-- And a trace of its root has just the pairs of its report, trails that are as long, and the same shipments.
abbrev pub EndsAreTraced : Type 0
EndsAreTraced =
    (records : List Record) (recall : Recall) (report : RecallReport) (trace : Trace) → AreInPlace records → Fit (world_of records) → IsEnded (world_of records) recall
    → IsReport records recall report → IsTrace records report.root.site report.root.item trace
    → (trace.pairs ≡ report.pairs) × (map (λ t. Some (length t)) trace.trails ≡ map (option_map length) report.trails) × (trace.outside ≡ report.outside)

-- The root is known at its site, so that there is such a trace.
abbrev pub EndedRootsAreKnown : Type 0
EndedRootsAreKnown =
    (records : List Record) (recall : Recall) (report : RecallReport) → AreInPlace records → Fit (world_of records) → IsEnded (world_of records) recall
    → IsReport records recall report → IsKnownAt (world_of records) report.root.site report.root.item

-- All traces of an item at a site have the same pairs, trails that are equally long, and the same shipments.
abbrev pub OneTrace : Type 0
OneTrace =
    (records : List Record) (site : ℕ) (item : List ℕ) (t u : Trace) → IsTrace records site item t → IsTrace records site item u
    → (t.root ≡ u.root) × (t.pairs ≡ u.pairs) × (map length t.trails ≡ map length u.trails) × (t.outside ≡ u.outside)

-- What a trace of one of a trace's pairs finds, that trace has too.
abbrev pub TracesGoOn : Type 0
TracesGoOn =
    (records : List Record) (site : ℕ) (item : List ℕ) (p : Pair) (t u : Trace) → IsTrace records site item t → Contains t.pairs p → IsTrace records p.site p.item u
    → ((q : Pair) → Contains u.pairs q → Contains t.pairs q) × ((x : OutsideShipment) → Contains u.outside x → Contains t.outside x)

-- A trace of an item with what lies in it has just the pairs that the item or one of these reaches, each at the site.
abbrev pub ContentsAreTraced : Type 0
ContentsAreTraced =
    (records : List Record) (site : ℕ) (item : List ℕ) (inside : List (List ℕ)) (t : Trace) → IsContentsTrace records site item inside t
    → (p : Pair) → Contains t.pairs p ↔ ((i : List ℕ) × ((i ≡ item) ⊎ Contains inside i) × Reaches (Related (captured_of records)) (record { site = site; item = i }) p)

-- A trace and a trace back are converse: the one has the other's root just where the other has its own.
abbrev pub TracesAreConverse : Type 0
TracesAreConverse =
    (records : List Record) (site site' : ℕ) (item item' : List ℕ) (t : Trace) (b : BackTrace) → IsTrace records site item t → IsBackTrace records site' item' b
    → Contains t.pairs b.root ↔ Contains b.pairs t.root

-- Then the trail of the one is as long as that of the other, and the other's leads the same way.
abbrev pub TrailsAreConverse : Type 0
TrailsAreConverse =
    (records : List Record) (site site' : ℕ) (item item' : List ℕ) (t : Trace) (b : BackTrace) → IsTrace records site item t → IsBackTrace records site' item' b
    → (j k : ℕ) (u v : List Pair) → slice_get t.pairs j ≡ Some b.root → slice_get t.trails j ≡ Some u → slice_get b.pairs k ≡ Some t.root → slice_get b.trails k ≡ Some v
    → (length u ≡ length v) × IsTrail (Related (captured_of records)) t.root b.root v

-- The root is among the pairs of its trace back.
abbrev pub BackTracesHaveRoots : Type 0
BackTracesHaveRoots = (records : List Record) (site : ℕ) (item : List ℕ) (b : BackTrace) → IsBackTrace records site item b → Contains b.pairs b.root

-- Each pair of a trace back is an origin, or one of its pairs is related to it; to an origin none is.
abbrev pub PairsHaveSources : Type 0
PairsHaveSources =
    (records : List Record) (site : ℕ) (item : List ℕ) (b : BackTrace) (p : Pair) → IsBackTrace records site item b → Contains b.pairs p
    → (Contains b.origins p ⊎ ((q : Pair) × Contains b.pairs q × Related (captured_of records) q p)) × (Contains b.origins p → (q : Pair) → Related (captured_of records) q p → ⊥)

-- All traces back of an item at a site have the same pairs, trails that are equally long, and the same origins.
abbrev pub OneBackTrace : Type 0
OneBackTrace =
    (records : List Record) (site : ℕ) (item : List ℕ) (t u : BackTrace) → IsBackTrace records site item t → IsBackTrace records site item u
    → (t.root ≡ u.root) × (t.pairs ≡ u.pairs) × (map length t.trails ≡ map length u.trails) × (t.origins ≡ u.origins)

-- What a trace back of one of a trace back's pairs finds, that trace back has too.
abbrev pub BackTracesGoOn : Type 0
BackTracesGoOn =
    (records : List Record) (site : ℕ) (item : List ℕ) (p : Pair) (b u : BackTrace) → IsBackTrace records site item b → Contains b.pairs p → IsBackTrace records p.site p.item u
    → ((q : Pair) → Contains u.pairs q → Contains b.pairs q) × ((q : Pair) → Contains u.origins q → Contains b.origins q)

-- A trace is refused as of an unknown item just where the site would refuse to begin a recall of it so.
abbrev pub RefusedAlike : Type 0
RefusedAlike = (W : World) (site : ℕ) (item : List ℕ) → TellsTraceFault W site item UnknownItem ↔ Refuses (W site) (Start item) refusals.UnknownItem

-- the told event is one that the shipment's site captured, with its number and eventID; it ships what the item left with to
-- the destination, which is the item itself where it ships that; and no event before it ships anything there that the item is
-- carried with
pub record IsShownBy (sites : List SiteEvents) (x : OutsideShipment) (told : OutsideEvent) : Type 0 where
  pub site : SiteEvents
  pub listed : slice_get sites x.site ≡ Some site
  pub place : ℕ
  pub event : Content
  pub captured : slice_get site.events place ≡ Some event
  pub number : told.event.number ≡ place + 1
  pub id : told.event.id ≡ event.id
  pub shipped : ShipsOut told.carrier x.destination event.body
  pub carried : IsCarriedWith site.events told.carrier x.item
  pub itself : ShipsOut x.item x.destination event.body → told.carrier ≡ x.item
  pub first : (k : ℕ) (e : Content) (c : List ℕ) → k < place → slice_get site.events k ≡ Some e → ShipsOut c x.destination e.body → IsCarriedWith site.events c x.item → ⊥

-- Each shipment out of the traced sites that is told has such an event at its place, and there are no other ones.
abbrev pub OutsideIsShown : Type 0
OutsideIsShown =
    (sites : List SiteEvents) (outside : List OutsideShipment) (told : List OutsideEvent) → AreToldOutside sites outside told
    → ((k : ℕ) (x : OutsideShipment) → slice_get outside k ≡ Some x → (t : OutsideEvent) × (slice_get told k ≡ Some t) × IsShownBy sites x t)
    × (length told ≡ length outside)

-- the number and the eventID of the event, and what the item left with
abbrev pub shown_of : OutsideEvent → ℕ × (Option (List ℕ) × List ℕ)
shown_of told = (told.event.number, (told.event.id, told.carrier))

-- The same shipments have one event each.
abbrev pub OneOutsideEvent : Type 0
OneOutsideEvent =
    (sites : List SiteEvents) (outside : List OutsideShipment) (t u : List OutsideEvent) → AreToldOutside sites outside t → AreToldOutside sites outside u
    → map shown_of t ≡ map shown_of u
