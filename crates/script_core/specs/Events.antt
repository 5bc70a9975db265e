-- What each event does to a world whose sites are kept in memory, and its answer. Memory may always run out.
use Rattle.std.specs.Prelude.{◌≡◌, ◌⊎◌, List, Option, Some, None, slice_get, slice_set}
use Rattle.frame_core.specs.declared.frames.Frame.{Frame}
use Rattle.keeper_core.specs.declared.faults.Keep.{Keep}
use Rattle.keeper_core.specs.declared.faults.KeepFault.TheVariants.{Closed}
use Rattle.keeper_core.specs.declared.faults.KeepFault.TheVariants as faults
use Rattle.site_core.specs.Emitting.{frame_at}
use Rattle.site_core.specs.Records.{Record}
use Rattle.site_core.specs.declared.inputs.SiteInput.{SiteInput}
use Rattle.world_core.specs.Turns.{Sends, input_at, site_of}
use Rattle.world_core.specs.Worlds.{Standing, Up, Down, WorldState}
use Rattle.world_core.specs.declared.events.Answer.{Answer}
use Rattle.world_core.specs.declared.events.Answer.TheVariants.{Done, Fault, NoFrame, NoSite, NotClosed, NoMemory, Reopened}
use Rattle.world_core.specs.declared.events.Answer.TheVariants as answers
use Rattle.world_core.specs.declared.events.WorldEvent.{WorldEvent}
use Rattle.world_core.specs.declared.events.WorldEvent.TheVariants.{Step, Send, Stop, Reopen}
use Rattle.script_core.specs.Happening.{Happens}
use Rattle.script_core.specs.declared.worlds.Outcome.{Outcome}
use Rattle.script_core.specs.declared.worlds.Outcome.TheVariants.{Did, Refused, Stopped}

-- how an outcome is answered
abbrev pub answer_for : Outcome → Answer
answer_for (Did effects) = Done effects
answer_for (Refused why) = Fault (faults.Refused why)
answer_for Stopped = answers.Stopped

-- what came of the input is answered
pub record IsAnswered (old : Record) (armed : Option Keep) (input : SiteInput) (answer : Answer) (new : Standing) : Type 0 where
  pub outcome : Outcome
  pub happens : Happens old armed input outcome new
  pub told : answer ≡ answer_for outcome

-- a site that is up is given an input, where there is one
abbrev pub IsHanded : Record → Option Keep → Option SiteInput → Answer → Standing → Type 0
IsHanded old armed None answer new = (answer ≡ NoFrame) × (new ≡ Up old)
IsHanded old armed (Some input) answer new = IsAnswered old armed input answer new ⊎ ((answer ≡ NoMemory) × (new ≡ Up old))

-- one event at its site
abbrev pub TurnsAt : Standing → List Frame → WorldEvent → Answer → Standing → List Frame → Type 0
TurnsAt (Up old) sent (Step at input) answer new now = IsHanded old None (input_at sent at input) answer new × (now ≡ sent)
TurnsAt (Up old) sent (Stop at input keep) answer new now = IsHanded old (Some keep) (input_at sent at input) answer new × (now ≡ sent)
TurnsAt (Up old) sent (Send at place) answer new now = Sends (frame_at old.engagement place) sent answer now × (new ≡ Up old)
TurnsAt (Up old) sent (Reopen at) answer new now = (answer ≡ NotClosed) × (new ≡ Up old) × (now ≡ sent)
TurnsAt (Down old) sent (Reopen at) answer new now = (answer ≡ Reopened) × (new ≡ Up old) × (now ≡ sent)
TurnsAt (Down old) sent event answer new now = (answer ≡ Fault Closed) × (new ≡ Down old) × (now ≡ sent)

-- in the world: the other sites stay as they are
abbrev pub TurnsFrom : Option Standing → WorldState → WorldEvent → Answer → WorldState → Type 0
TurnsFrom None old event answer new = (answer ≡ NoSite) × (new ≡ old)
TurnsFrom (Some standing) old event answer new =
    (changed : Standing) × TurnsAt standing old.sent event answer changed new.sent × (new.sites ≡ slice_set old.sites (site_of event) changed)

abbrev pub Turns : WorldState → WorldEvent → Answer → WorldState → Type 0
Turns old event answer new = TurnsFrom (slice_get old.sites (site_of event)) old event answer new
