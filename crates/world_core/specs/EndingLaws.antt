-- That no recall is stuck. From each world that a run leads to, openings, sends and deliveries alone end a recall that
-- was begun; and no frame that was sent is refused as not for its site.
use Rattle.std.specs.Prelude.{◌≡◌, ⊤, ℕ, List, [], ◌∷◌, Contains, Some, slice_get}
use Rattle.std.specs.List.{AllByRecursion}
use Rattle.std.specs.FinMap.{get}
use Rattle.frame_core.specs.Laws.{IsRowOf}
use Rattle.frame_core.specs.Numbers.{Recall}
use Rattle.frame_core.specs.declared.frames.Frame.{Frame}
use Rattle.scholten_core.specs.Engagement.{Engagement}
use Rattle.scholten_core.specs.Laws.{IsOwned}
use Rattle.scholten_core.specs.declared.own_recalls.Own.{Own}
use Rattle.site_core.specs.Records.{Record, IsSound}
use Rattle.site_core.specs.Steps.{HaveNumbers, Refuses}
use Rattle.site_core.specs.Ways.{Holds, ShipsTo}
use Rattle.site_core.specs.declared.inputs.SiteInput.TheVariants as inputs
use Rattle.site_core.specs.declared.outcomes.Refusal.TheVariants.{NotMine}
use Rattle.world_core.specs.Faults.{AreFresh, AreOneWorld}
use Rattle.world_core.specs.Recalls.{HasEnded}
use Rattle.world_core.specs.Turns.{Runs, addressee}
use Rattle.world_core.specs.Worlds.{WorldState, WorldFits, records}
use Rattle.world_core.specs.declared.events.Answer.{Answer}
use Rattle.world_core.specs.declared.events.WorldEvent.{WorldEvent}
use Rattle.world_core.specs.declared.events.WorldEvent.TheVariants.{Step, Send, Reopen}
use Rattle.world_core.specs.declared.events.WorldInput.TheVariants.{Deliver}

-- What every run keeps, and the check of the records doesn't look at.

-- a site that is engaged for a recall, or that began it and hasn't recorded its end, has messages of it that aren't
-- signalled
abbrev pub AwaitsSignals : Engagement → Type 0
AwaitsSignals e = (r : Recall) → IsOwned e r → IsRowOf e.outbox r

-- the records are of all sites of one list, each is sound, and awaits the signals that it is there for
pub record AreGoing (rs : List Record) : Type 0 where
  pub one : AreOneWorld rs
  pub sound : (place : ℕ) (r : Record) → slice_get rs place ≡ Some r → IsSound r
  pub await : (place : ℕ) (r : Record) → slice_get rs place ≡ Some r → AwaitsSignals r.engagement

-- So it is at sites at which nothing happened yet.
abbrev pub FreshSitesAreGoing : Type 0
FreshSitesAreGoing = (rs : List Record) → AreOneWorld rs → AreFresh rs → AreGoing rs

-- And after every run from there.
abbrev pub RunsKeepGoing : Type 0
RunsKeepGoing =
    (old new : WorldState) (events : List WorldEvent) (answers : List Answer)
    → WorldFits old → AreGoing (records old) → Runs old events answers new → AreGoing (records new)

-- A recall can end.

-- the site that is named as its initiator began the recall, from this root
pub record HasBegun (recall : Recall) (root : List ℕ) (records : List Record) : Type 0 where
  pub initiator : Record
  pub there : slice_get records recall.site ≡ Some initiator
  pub own : Own
  pub begun : get initiator.engagement.own recall.number ≡ Some own
  pub from : own.root ≡ root

-- no shipment is listed twice
abbrev pub AreListedOnce : List (ℕ × List ℕ) → Type 0
AreListedOnce [] = ⊤
AreListedOnce (shipment ∷ others) = (Contains others shipment → ⊥) × AreListedOnce others

-- the site has numbers for as many messages as there are shipments, to a site each, of what isn't quarantined there
-- under the recall
abbrev pub HasNumbersFor : Recall → Record → Type 0
HasNumbersFor recall s =
    (out : List (ℕ × List ℕ)) → AreListedOnce out → ((to : ℕ) (i : List ℕ) → Contains out (to, i) → ShipsTo s i to × (Holds s recall i → ⊥))
    → HaveNumbers s.engagement out

-- a frame is sent, one that was sent is delivered, or a closed site is opened
abbrev pub CarriesOn : WorldEvent → Type 0
CarriesOn (Send site place) = ⊤
CarriesOn (Step site (Deliver place)) = ⊤
CarriesOn (Reopen site) = ⊤
CarriesOn event = ⊥

-- a run of such events by which the recall ends
pub record CanEnd (recall : Recall) (root : List ℕ) (world : WorldState) : Type 0 where
  pub events : List WorldEvent
  pub answers : List Answer
  pub new : WorldState
  pub runs : Runs world events answers new
  pub carries : AllByRecursion CarriesOn events
  pub ended : HasEnded recall root (records new)

-- No recall that was begun is stuck: as long as numbers are left, frames end it, once closed sites are opened.
abbrev pub EveryRecallCanEnd : Type 0
EveryRecallCanEnd =
    (world : WorldState) (recall : Recall) (root : List ℕ)
    → WorldFits world → AreGoing (records world) → HasBegun recall root (records world)
    → ((place : ℕ) (r : Record) → slice_get (records world) place ≡ Some r → HasNumbersFor recall r)
    → CanEnd recall root world

-- Each frame finds its site.

-- the frame's site is there, and doesn't refuse it as not for it
pub record FindsItsSite (frame : Frame) (records : List Record) : Type 0 where
  pub site : Record
  pub there : slice_get records (addressee frame) ≡ Some site
  pub its : Refuses site (inputs.Deliver frame) NotMine → ⊥

-- After every run from sites at which nothing happened yet, each frame that was ever sent does.
abbrev pub FramesFindTheirSite : Type 0
FramesFindTheirSite =
    (old new : WorldState) (events : List WorldEvent) (answers : List Answer)
    → AreOneWorld (records old) → AreFresh (records old) → old.sent ≡ [] → Runs old events answers new
    → (frame : Frame) → Contains new.sent frame → FindsItsSite frame (records new)
