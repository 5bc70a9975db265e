-- What each event does to a world, and its answer.
use Rattle.std.specs.Prelude.{◌≡◌, ℕ, zero, suc, ◌==◌, ◌⊎◌, Option, Some, None, List, [], ◌∷◌, ◌++◌, length, slice_get, slice_set, if◌then◌else◌}
use Rattle.frame_core.specs.declared.frames.Frame.{Frame}
use Rattle.frame_core.specs.declared.frames.Frame.TheVariants as frames
use Rattle.site_core.specs.Emitting as site
use Rattle.site_core.specs.Records.{Record}
use Rattle.site_core.specs.Steps.{Does}
use Rattle.site_core.specs.declared.inputs.SiteInput.{SiteInput}
use Rattle.site_core.specs.declared.inputs.SiteInput.TheVariants as inputs
use Rattle.keeper_core.specs.Keeping.{IsAfter, IsRefusedFor}
use Rattle.keeper_core.specs.declared.faults.Keep.{Keep}
use Rattle.keeper_core.specs.declared.faults.Keep.TheVariants.{Old, New}
use Rattle.keeper_core.specs.declared.faults.KeepFault.TheVariants.{Refused, Device, Store, Closed}
use Rattle.world_core.specs.declared.events.WorldInput.{WorldInput}
use Rattle.world_core.specs.declared.events.WorldInput.TheVariants.{Capture, Start, Deliver}
use Rattle.world_core.specs.declared.events.WorldEvent.{WorldEvent}
use Rattle.world_core.specs.declared.events.WorldEvent.TheVariants.{Step, Send, Stop, Reopen}
use Rattle.world_core.specs.declared.events.Answer.{Answer}
use Rattle.world_core.specs.declared.events.Answer.TheVariants.{Done, Fault, Sent, NoFrame, NoSite, Stopped, Reopened, NotReopened, NotClosed, NoMemory}
use Rattle.world_core.specs.Worlds.{Standing, Up, Down, WorldState}

-- What an event gives to its site.

-- the site that a frame is for: a message's is named, and a signal goes to the sender of its message
abbrev pub addressee : Frame → ℕ
addressee (frames.Recall m dest r i) = dest
addressee (frames.Signal m by) = m.site

-- the frame sent at a place, from 1
abbrev pub frame_at : List Frame → ℕ → Option Frame
frame_at sent zero = None
frame_at sent (suc place) = slice_get sent place

abbrev pub input_of_frame : ℕ → Option Frame → Option SiteInput
input_of_frame site None = None
input_of_frame site (Some frame) = if addressee frame == site then Some (inputs.Deliver frame) else None

-- what a site is given. None where a frame is named that wasn't sent, or is for another site
abbrev pub input_at : List Frame → ℕ → WorldInput → Option SiteInput
input_at sent site (Capture bytes) = Some (inputs.Capture bytes)
input_at sent site (Start root) = Some (inputs.Start root)
input_at sent site (Deliver place) = input_of_frame site (frame_at sent place)

-- A site that is up with the record old.

-- it goes down within a step: before it or after it
abbrev pub GoesDown : Record → SiteInput → Standing → Type 0
GoesDown old input new = (new ≡ Down old) ⊎ ((r : Record) × IsAfter old input r × (new ≡ Down r))

abbrev pub Steps : Record → Option SiteInput → Answer → Standing → Type 0
Steps old (Some input) (Done effects) new = (r : Record) × Does old input effects r × (new ≡ Up r)
Steps old (Some input) (Fault (Refused why)) new = IsRefusedFor old input why × (new ≡ Up old)
Steps old (Some input) (Fault Device) new = GoesDown old input new
Steps old (Some input) (Fault Store) new = GoesDown old input new
Steps old (Some input) NoMemory new = new ≡ Up old
Steps old None NoFrame new = new ≡ Up old
Steps old input answer new = ⊥

abbrev pub Stops : Record → Option SiteInput → Keep → Answer → Standing → Type 0
Stops old (Some input) Old Stopped new = new ≡ Down old
Stops old (Some input) New Stopped new = GoesDown old input new
Stops old (Some input) keep NoMemory new = new ≡ Up old
Stops old None keep NoFrame new = new ≡ Up old
Stops old input keep answer new = ⊥

-- the frame that the record makes emittable is added to those sent, and its place there is reported
abbrev pub Sends : Option Frame → List Frame → Answer → List Frame → Type 0
Sends (Some frame) sent (Sent place) now = (now ≡ sent ++ frame ∷ []) × (place ≡ length now)
Sends (Some frame) sent NoMemory now = now ≡ sent
Sends None sent NoFrame now = now ≡ sent
Sends frame sent answer now = ⊥

-- A site that is down, to be opened in the record old.

abbrev pub Reopens : Record → Answer → Standing → Type 0
Reopens old Reopened new = new ≡ Up old
Reopens old (NotReopened Device) new = new ≡ Down old
Reopens old (NotReopened Store) new = new ≡ Down old
Reopens old NoMemory new = new ≡ Down old
Reopens old answer new = ⊥

abbrev pub ReopensTo : Standing → Answer → Standing → Type 0
ReopensTo (Down old) answer new = Reopens old answer new
ReopensTo (Up old) answer new = ⊥

-- One event.

-- at its site: what was sent before and after stands beside the site's standing
abbrev pub TurnsAt : Standing → List Frame → WorldEvent → Answer → Standing → List Frame → Type 0
TurnsAt (Up old) sent (Step at input) answer new now = Steps old (input_at sent at input) answer new × (now ≡ sent)
TurnsAt (Up old) sent (Stop at input keep) answer new now = Stops old (input_at sent at input) keep answer new × (now ≡ sent)
TurnsAt (Up old) sent (Send at place) answer new now = Sends (site.frame_at old.engagement place) sent answer now × (new ≡ Up old)
TurnsAt (Up old) sent (Reopen at) answer new now = (answer ≡ NotClosed) × (new ≡ Up old) × (now ≡ sent)
TurnsAt (Down old) sent (Reopen at) answer new now = Reopens old answer new × (now ≡ sent)
TurnsAt (Down old) sent event answer new now = (answer ≡ Fault Closed) × (new ≡ Down old) × (now ≡ sent)

abbrev pub site_of : WorldEvent → ℕ
site_of (Step at input) = at
site_of (Stop at input keep) = at
site_of (Send at place) = at
site_of (Reopen at) = at

-- in the world: the other sites stay as they are
abbrev pub TurnsFrom : Option Standing → WorldState → WorldEvent → Answer → WorldState → Type 0
TurnsFrom None old event answer new = (answer ≡ NoSite) × (new ≡ old)
TurnsFrom (Some standing) old event answer new =
    (changed : Standing) × TurnsAt standing old.sent event answer changed new.sent × (new.sites ≡ slice_set old.sites (site_of event) changed)

abbrev pub Turns : WorldState → WorldEvent → Answer → WorldState → Type 0
Turns old event answer new = TurnsFrom (slice_get old.sites (site_of event)) old event answer new

-- a list of events, one after another, each with its answer
abbrev pub Runs : WorldState → List WorldEvent → List Answer → WorldState → Type 0
Runs old [] [] new = new ≡ old
Runs old (event ∷ events) (answer ∷ answers) new = (mid : WorldState) × Turns old event answer mid × Runs mid events answers new
Runs old events answers new = ⊥

-- a world that a run goes by: before its first event, between two, or after its last one
pub record GoesBy (old : WorldState) (events : List WorldEvent) (answers : List Answer) (new mid : WorldState) : Type 0 where
  pub before : List WorldEvent
  pub told : List Answer
  pub after : List WorldEvent
  pub later : List Answer
  pub all_events : events ≡ before ++ after
  pub all_answers : answers ≡ told ++ later
  pub runs_to : Runs old before told mid
  pub runs_on : Runs mid after later new

-- it holds of each world that a run goes by
abbrev pub AtEachMoment : WorldState → List WorldEvent → List Answer → WorldState → (WorldState → Type 0) → Type 0
AtEachMoment old events answers new P = (mid : WorldState) → GoesBy old events answers new mid → P mid
