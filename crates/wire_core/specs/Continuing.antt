-- That what threads have done at one moment is continued at the next.
use Rattle.std.specs.Prelude.{◌≡◌, ◌⊎◌, ℕ, List, [], ◌∷◌, ◌++◌, Contains, Option as Maybe}
use Rattle.atomic_table.specs.Table.{State}
use Rattle.frame_core.specs.declared.frames.Frame.{Frame}
use Rattle.site_core.specs.Emitting.{emittable}
use Rattle.site_core.specs.Records.{Record}
use Rattle.site_core.specs.declared.inputs.SiteInput.{SiteInput}
use Rattle.keeper_core.specs.Keeping.{IsAfter}
use Rattle.world_core.specs.Turns.{Runs}
use Rattle.world_core.specs.declared.events.Answer.{Answer}
use Rattle.world_core.specs.declared.events.WorldEvent.{WorldEvent}
use Rattle.wire_core.specs.declared.views.Doing.TheVariants.{Nothing}
use Rattle.wire_core.specs.declared.views.Log.{Log}
use Rattle.wire_core.specs.declared.views.View.{View}
use Rattle.wire_core.specs.Between.{IsKnown}
use Rattle.wire_core.specs.Changes.{asks, does, does_posts, does_receives, does_writes, marks, offers}
use Rattle.wire_core.specs.Frames.{DeliversOneOf, sender}
use Rattle.wire_core.specs.Rule.{IsRun, Ruled, last_records, world_up}

-- no step of the site was marked, and it sent no frame
pub record IsUnmoved (old new : Log) : Type 0 where
  pub inputs : new.inputs ≡ old.inputs
  pub last : new.last ≡ old.last
  pub sent : new.sent ≡ old.sent

-- one more step was marked, of a frame that was noted where it delivers one
pub record IsMarked (old new : Log) : Type 0 where
  pub input : SiteInput
  pub after : IsAfter old.last input new.last
  pub noted : DeliversOneOf old.noted input
  pub inputs : new.inputs ≡ old.inputs ++ input ∷ []
  pub sent : new.sent ≡ old.sent

-- one more frame was sent, which the record last marked makes emittable
pub record HasSent (old new : Log) : Type 0 where
  pub frame : Frame
  pub site : sender frame ≡ old.site
  pub emitted : Contains (emittable old.last.engagement) frame
  pub inputs : new.inputs ≡ old.inputs
  pub last : new.last ≡ old.last
  pub sent : new.sent ≡ old.sent ++ frame ∷ []

-- So is what the steps of the mailboxes change in a log: to claim, to note and to release one, to offer a frame and to ask
-- for one leave it unmoved; to publish one sends a frame, and a mark marks.
pub record ChangesAreSteps : Type 0 where
  pub claims : (to : ℕ) (f : Frame) (e : Log) → IsUnmoved e (does_writes to (offers f) e)
  pub offers_one : (f : Frame) (e : Log) → IsUnmoved e (offers f e)
  pub notes_one : (from : ℕ) (f : Frame) (e : Log) → IsUnmoved e (does_receives from f e)
  pub asks_one : (other : ℕ) (e : Log) → IsUnmoved e (asks other e)
  pub releases : (e : Log) → IsUnmoved e (does Nothing e)
  pub publishes : (f : Frame) (e : Log) → sender f ≡ e.site → Contains (emittable e.last.engagement) f → HasSent e (does_posts f e)
  pub marks_one : (input : SiteInput) (new : Record) (e : Log) → IsAfter e.last input new → DeliversOneOf e.noted input → IsMarked e (marks input new e)

-- of what the seats know, one step of this site was marked, or one frame sent by it, and of other sites none
abbrev pub IsOneStepOf : ℕ → List View → List View → Type 0
IsOneStepOf site old new =
    (e n : Log) → IsKnown old e → IsKnown new n → n.site ≡ e.site
    → IsUnmoved e n ⊎ ((e.site ≡ site) × (IsMarked e n ⊎ HasSent e n))

-- The run goes on, by further events with their answers, from where it led to a run of these logs.
pub record GoesOnTo (start : List Record) (old : List Log) (run : IsRun start old) (new : List Log) : Type 0 where
  pub longer : IsRun start new
  pub events : List WorldEvent
  pub answers : List Answer
  pub all_events : longer.events ≡ run.events ++ events
  pub all_answers : longer.answers ≡ run.answers ++ answers
  pub runs_on : Runs (world_up (last_records old) run.sent) events answers (world_up (last_records new) longer.sent)

-- Of two moments, the second one step of a site later: each run of the world that the logs of all sites are at the first
-- goes on to one that they are at the second.
abbrev pub StepsExtendTheRun : Type 0
StepsExtendTheRun =
    (start : List Record) (s t : State (Maybe Frame) View) (old : Ruled start s) (new : Ruled start t) (site : ℕ)
    → IsOneStepOf site s.views t.views → (run : IsRun start old.0) → GoesOnTo start old.0 run new.0
