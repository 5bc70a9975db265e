-- What every run of a world keeps.
use Rattle.std.specs.Prelude.{◌≡◌, ◌⊎◌, ℕ, ◌++◌, List, [], Contains}
use Rattle.frame_core.specs.declared.frames.Frame.{Frame}
use Rattle.world_core.specs.declared.events.WorldEvent.{WorldEvent}
use Rattle.world_core.specs.declared.events.Answer.{Answer}
use Rattle.frame_core.specs.Numbers.{Recall}
use Rattle.trace_core.specs.Pairs.{IsStrictlyAscending}
use Rattle.world_core.specs.Faults.{AreFresh, AreOneWorld, MakeAWorld}
use Rattle.world_core.specs.Recalls.{AreExactOnceEnded, HasEnded, StaysEnded, quarantined}
use Rattle.world_core.specs.Worlds.{WorldState, WorldFits, records}
use Rattle.world_core.specs.SendingLaws.{WasEmittable}
use Rattle.world_core.specs.Turns.{AtEachMoment, GoesBy, Runs, Turns}
use Rattle.world_core.specs.KeptSteps.{SitesStand}

-- What was sent stays sent, in its place.
abbrev pub FramesStay : Type 0
FramesStay = (old new : WorldState) (events : List WorldEvent) (answers : List Answer) → Runs old events answers new → (more : List Frame) × (new.sent ≡ old.sent ++ more)

-- After every run each site stands as its kept steps.
abbrev pub SitesStandAsKept : Type 0
SitesStandAsKept = (old new : WorldState) (events : List WorldEvent) (answers : List Answer) → Runs old events answers new → SitesStand old events answers new

-- Sites at which nothing happened yet are consistent, and no frame was sent.
abbrev pub FreshSitesFit : Type 0
FreshSitesFit = (world : WorldState) → AreOneWorld (records world) → AreFresh (records world) → world.sent ≡ [] → WorldFits world

-- Each event, whatever its answer, leaves the sites consistent. So does every run.
abbrev pub TurnsKeepTheFit : Type 0
TurnsKeepTheFit = (old new : WorldState) (event : WorldEvent) (answer : Answer) → WorldFits old → Turns old event answer new → WorldFits new

abbrev pub RunsKeepTheFit : Type 0
RunsKeepTheFit = (old new : WorldState) (events : List WorldEvent) (answers : List Answer) → WorldFits old → Runs old events answers new → WorldFits new

-- In sites that are consistent, what is quarantined under an ended recall is what its root reaches, neither more nor less.
abbrev pub WorldEndsAreExact : Type 0
WorldEndsAreExact = (world : WorldState) (recall : Recall) → WorldFits world → AreExactOnceEnded recall (records world) (quarantined recall (records world))

-- Each pair is listed once, by site and then by item.
abbrev pub QuarantinesAscend : Type 0
QuarantinesAscend = (world : WorldState) (recall : Recall) → WorldFits world → IsStrictlyAscending (quarantined recall (records world))

-- A recall that has ended stays so, with the same pairs, whatever happens.
abbrev pub EndedStays : Type 0
EndedStays =
    (old new : WorldState) (events : List WorldEvent) (answers : List Answer) (recall : Recall) (root : List ℕ)
    → WorldFits old → Runs old events answers new → HasEnded recall root (records old) → StaysEnded recall root (records old) (records new)

-- What a run makes of sites that are consistent.
pub record ComesOut (old : WorldState) (events : List WorldEvent) (answers : List Answer) (new : WorldState) : Type 0 where
  -- it is one event after another, each with its answer
  pub run : Runs old events answers new
  -- the worlds before it and after it are moments of it
  pub moments : GoesBy old events answers new old × GoesBy old events answers new new
  -- each site stands as its answered steps in order, with each step that it went down in whole or absent
  pub stand : SitesStand old events answers new
  -- each frame that it sent was emittable, at a moment of it, by the record that an open site had kept
  pub emittable : (frame : Frame) → Contains new.sent frame → Contains old.sent frame ⊎ WasEmittable old events answers new frame
  -- whenever the site that began a recall has recorded its end, what is quarantined under it, at all sites, is what its
  -- root reaches
  pub exact : AtEachMoment old events answers new (λ mid. (recall : Recall) → AreExactOnceEnded recall (records mid) (quarantined recall (records mid)))
  -- in which each pair is listed once
  pub ascend : AtEachMoment old events answers new (λ mid. (recall : Recall) → IsStrictlyAscending (quarantined recall (records mid)))
  -- and a recall that has ended stays so, with the same pairs
  pub stay : AtEachMoment old events answers new (λ mid. (recall : Recall) (root : List ℕ) → HasEnded recall root (records mid) → StaysEnded recall root (records mid) (records new))
  -- the sites make a world again once they are started again, in whichever records they may be opened, when no frame is
  -- in flight
  pub again : AtEachMoment old events answers new (λ mid. MakeAWorld (records mid))

-- So it does whatever happens, in whatever order, and whatever its answer: steps that are refused, lost, repeated or
-- late frames, sites that stop within a step and are opened again.
abbrev pub RunsComeOut : Type 0
RunsComeOut =
    (old new : WorldState) (events : List WorldEvent) (answers : List Answer)
    → WorldFits old → AreOneWorld (records old) → Runs old events answers new → ComesOut old events answers new

-- So it does from the start.
abbrev pub RunsFromTheStartComeOut : Type 0
RunsFromTheStartComeOut =
    (old new : WorldState) (events : List WorldEvent) (answers : List Answer)
    → AreOneWorld (records old) → AreFresh (records old) → old.sent ≡ [] → Runs old events answers new → ComesOut old events answers new
