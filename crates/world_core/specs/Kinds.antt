-- What an event does to keepers of one kind, for a caller that knows what the kind promises: which keepers stand
-- afterwards, where the worlds that they may be leave something open.
use Rattle.std.specs.Prelude.{◌≡◌, ◌⊎◌, Bool, true, false, List, slice_get, slice_set, Option, Some, None, Result, Ok, Err}
use Rattle.frame_core.specs.declared.frames.Frame.{Frame}
use Rattle.site_core.specs.Emitting as site
use Rattle.site_core.specs.Records.{Record}
use Rattle.site_core.specs.declared.inputs.SiteInput.{SiteInput}
use Rattle.site_core.specs.declared.outcomes.Effects.{Effects}
use Rattle.keeper_core.specs.declared.faults.Keep.{Keep}
use Rattle.keeper_core.specs.declared.faults.KeepFault.{KeepFault}
use Rattle.keeper_core.specs.declared.faults.KeepFault.TheVariants.{Closed}
use Rattle.keeper_core.specs.declared.faults.Unopened.{Unopened}
use Rattle.world_core.specs.declared.events.Answer.{Answer}
use Rattle.world_core.specs.declared.events.Answer.TheVariants.{Fault, NoFrame, NoSite, Stopped, Reopened, NotClosed, NoMemory}
use Rattle.world_core.specs.declared.events.WorldEvent.{WorldEvent}
use Rattle.world_core.specs.declared.events.WorldEvent.TheVariants.{Step, Send, Stop, Reopen}
use Rattle.world_core.specs.Answers.{answer_of, hindrance}
use Rattle.world_core.specs.Keepers.{Sites}
use Rattle.world_core.specs.Turns.{Sends, input_at, site_of}

-- what a stop is answered
abbrev pub stop_answer : Bool → Answer
stop_answer true = Stopped
stop_answer false = NoMemory

-- what an opening gives back, and its answer
abbrev pub opened : {K : Type 0} → Result K (Unopened K) → K
opened (Ok keeper) = keeper
opened (Err unopened) = unopened.keeper

abbrev pub opening_answer : {K : Type 0} → Result K (Unopened K) → Answer
opening_answer (Ok keeper) = Reopened
opening_answer (Err unopened) = hindrance unopened.fault

-- One keeper. Memory may run out while what it is given is copied.

abbrev pub KeeperSteps : {K : Type 0} → (K → SiteInput → Result Effects KeepFault → K → Type 0) → K → Option SiteInput → Answer → K → Type 0
KeeperSteps applies old None answer new = (answer ≡ NoFrame) × (new ≡ old)
KeeperSteps applies old (Some input) answer new =
    ((result : Result Effects KeepFault) × applies old input result new × (answer ≡ answer_of result)) ⊎ ((answer ≡ NoMemory) × (new ≡ old))

abbrev pub KeeperStops : {K : Type 0} → (K → SiteInput → Keep → Bool → K → Type 0) → K → Option SiteInput → Keep → Answer → K → Type 0
KeeperStops stops old None keep answer new = (answer ≡ NoFrame) × (new ≡ old)
KeeperStops stops old (Some input) keep answer new =
    ((done : Bool) × stops old input keep done new × (answer ≡ stop_answer done)) ⊎ ((answer ≡ NoMemory) × (new ≡ old))

abbrev pub KeeperReopens : {K : Type 0} → (K → Result K (Unopened K) → Type 0) → K → Answer → K → Type 0
KeeperReopens {K} reopens old answer new = (result : Result K (Unopened K)) × reopens old result × (new ≡ opened result) × (answer ≡ opening_answer result)

-- what an event does to the keeper of its site, which shows this record or none, and to the frames sent
abbrev pub KeeperTurns :
    {K : Type 0} → (K → SiteInput → Result Effects KeepFault → K → Type 0) → (K → SiteInput → Keep → Bool → K → Type 0) → (K → Result K (Unopened K) → Type 0)
    → Option Record → K → List Frame → WorldEvent → Answer → K → List Frame → Type 0
KeeperTurns applies stops reopens (Some shows) old sent (Step at input) answer new now = KeeperSteps applies old (input_at sent at input) answer new × (now ≡ sent)
KeeperTurns applies stops reopens (Some shows) old sent (Stop at input keep) answer new now = KeeperStops stops old (input_at sent at input) keep answer new × (now ≡ sent)
KeeperTurns applies stops reopens (Some shows) old sent (Send at place) answer new now = Sends (site.frame_at shows.engagement place) sent answer now × (new ≡ old)
KeeperTurns applies stops reopens (Some shows) old sent (Reopen at) answer new now = (answer ≡ NotClosed) × (new ≡ old) × (now ≡ sent)
KeeperTurns applies stops reopens None old sent (Reopen at) answer new now = KeeperReopens reopens old answer new × (now ≡ sent)
KeeperTurns applies stops reopens None old sent event answer new now = (answer ≡ Fault Closed) × (new ≡ old) × (now ≡ sent)

-- All keepers: those of other sites stay as they are.

abbrev pub KeepersTurnFrom :
    {K : Type 0} → (K → Option Record) → (K → SiteInput → Result Effects KeepFault → K → Type 0) → (K → SiteInput → Keep → Bool → K → Type 0) → (K → Result K (Unopened K) → Type 0)
    → Option K → Sites K → WorldEvent → Answer → Sites K → Type 0
KeepersTurnFrom shown applies stops reopens None old event answer new = (answer ≡ NoSite) × (new ≡ old)
KeepersTurnFrom {K} shown applies stops reopens (Some keeper) old event answer new =
    (changed : K) × KeeperTurns applies stops reopens (shown keeper) keeper old.sent event answer changed new.sent × (new.keepers ≡ slice_set old.keepers (site_of event) changed)

abbrev pub KeepersTurn :
    {K : Type 0} → (K → Option Record) → (K → SiteInput → Result Effects KeepFault → K → Type 0) → (K → SiteInput → Keep → Bool → K → Type 0) → (K → Result K (Unopened K) → Type 0)
    → Sites K → WorldEvent → Answer → Sites K → Type 0
KeepersTurn shown applies stops reopens old event answer new = KeepersTurnFrom shown applies stops reopens (slice_get old.keepers (site_of event)) old event answer new
