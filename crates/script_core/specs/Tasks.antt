-- What each task does to a world, and its answer.
use Rattle.std.specs.Prelude.{◌≡◌, ◌↔◌, ℕ, ◌+◌, Bool, true, false, List, [], ◌++◌, codes, length, Option, Some, None, option_and_then, slice_get, Result, Ok, Err, Contains}
use Rattle.std.specs.List.{position_from}
use Rattle.epc_core.specs.declared.items.EpcFault.{EpcFault}
use Rattle.epc_core.specs.Reading.{reading}
use Rattle.event_json.specs.Sites.{Site, named}
use Rattle.frame_core.specs.Numbers.{Recall, Message}
use Rattle.frame_core.specs.declared.frames.Frame.{Frame}
use Rattle.frame_core.specs.declared.frames.Frame.TheVariants as frames
use Rattle.keeper_core.specs.declared.faults.Keep.{Keep}
use Rattle.site_core.specs.Records.{Record}
use Rattle.site_core.specs.declared.inputs.SiteInput.{SiteInput}
use Rattle.site_core.specs.declared.inputs.SiteInput.TheVariants.{Capture, Start, Deliver}
use Rattle.site_recovery.specs.Laws.{captured_of}
use Rattle.trace_core.specs.Chains.{Related}
use Rattle.trace_core.specs.Pairs.{IsStrictlyAscending}
use Rattle.trace_core.specs.Relations.{Reaches}
use Rattle.trace_core.specs.Sites.{SiteEvents}
use Rattle.trace_core.specs.declared.pairs.Pair.{Pair}
use Rattle.world_core.specs.Recalls.{ended_in, quarantined}
use Rattle.world_core.specs.Turns.{addressee, frame_at}
use Rattle.world_core.specs.Worlds.{Standing, Up, Down, records}
use Rattle.recall_text.specs.Answer.{Said, refused, done}
use Rattle.recall_text.specs.Requests.{Task, capture, reach, recall, send, signal, deliver, stop, reopen, pump, quarantine}
use Rattle.recall_text.specs.State.{World}
use Rattle.recall_text.specs.Words.{name_at, message_text, effects_text, refusal_text, stopped_text, frame_text, armed_text, open_text, pairs_text, quarantine_text}
use Rattle.script_core.specs.Happening.{Happens, with_standing, with_frame, with_armed, with_site}
use Rattle.script_core.specs.Pumping.{Pumps}
use Rattle.script_core.specs.Sending.{row_frame, owed_signal}
use Rattle.script_core.specs.State.{up_at, armed_at}
use Rattle.script_core.specs.declared.worlds.Outcome.{Outcome}
use Rattle.script_core.specs.declared.worlds.Outcome.TheVariants.{Did, Refused, Stopped}

-- ---- where a task is done

-- the line is refused, and the world stays as it is
abbrev pub IsRefused : World → List ℕ → Said → World → Type 0
IsRefused w what said after = (said ≡ refused what) × (after ≡ w)

-- at the site of a name
abbrev pub AtSite : World → List ℕ → Option ℕ → (ℕ → Type 0) → Said → World → Type 0
AtSite w name None task said after = IsRefused w (codes "NoSite " ++ name) said after
AtSite w name (Some n) task said after = task n

-- the answer to a line at a site that is down
abbrev pub closed_text : World → ℕ → List ℕ
closed_text w n = codes "Closed " ++ name_at w.sites n

-- at a site that is up with a record
abbrev pub WhereUp : World → ℕ → Option Record → (Record → Type 0) → Said → World → Type 0
WhereUp w n None task said after = IsRefused w (closed_text w n) said after
WhereUp w n (Some old) task said after = task old

-- the least site that is down
abbrev pub is_down : Standing → Bool
is_down (Up r) = false
is_down (Down r) = true

abbrev pub first_down : World → Option ℕ
first_down w = position_from is_down 0 w.world.sites

-- where all sites are up
abbrev pub WhereAllUp : World → Option ℕ → Type 0 → Said → World → Type 0
WhereAllUp w None task said after = task
WhereAllUp w (Some n) task said after = IsRefused w (closed_text w n) said after

-- ---- `capture`, `recall`, `deliver`: a site is given an input

-- a stopped step is reported in place of what it did, or of its refusal
abbrev pub outcome_said : List Site → ℕ → List ℕ → Outcome → Said
outcome_said sites n about (Did effects) = done (effects_text sites about effects)
outcome_said sites n about (Refused why) = refused (refusal_text sites why)
outcome_said sites n about Stopped = done (stopped_text sites n)

-- what came of the input is reported
pub record Tells (w : World) (n : ℕ) (input : SiteInput) (about : List ℕ) (old : Record) (said : Said) (after : World) : Type 0 where
  pub outcome : Outcome
  pub standing : Standing
  pub happens : Happens old (armed_at w n) input outcome standing
  pub text : said ≡ outcome_said w.sites n about outcome
  pub changed : after ≡ with_standing w n standing

abbrev pub Hands : World → ℕ → SiteInput → List ℕ → Said → World → Type 0
Hands w n input about said after = WhereUp w n (up_at w n) (λ old. Tells w n input about old said after) said after

abbrev pub RecallRead : World → ℕ → Result (List ℕ) EpcFault → Said → World → Type 0
RecallRead w n (Err fault) said after = IsRefused w (codes "BadEpc") said after
RecallRead w n (Ok root) said after = Hands w n (Start root) [] said after

-- the message that a frame brings or signals
abbrev pub message_of : Frame → Message
message_of (frames.Recall m dest r i) = m
message_of (frames.Signal m by) = m

-- the frame that was sent at a place is delivered to the site that it is for
abbrev pub Delivers : World → Option Frame → Said → World → Type 0
Delivers w None said after = IsRefused w (codes "NoFrame") said after
Delivers w (Some frame) said after = Hands w (addressee frame) (Deliver frame) (message_text w.sites (message_of frame)) said after

-- ---- `send`, `signal`: a frame is sent, and its place among those sent is reported

abbrev pub Sends : World → Option Frame → Said → World → Type 0
Sends w None said after = IsRefused w (codes "NoFrame") said after
Sends w (Some frame) said after = (said ≡ done (frame_text (length w.world.sent + 1))) × (after ≡ with_frame w frame)

-- ---- `stop`, `reopen`

abbrev pub Arms : World → ℕ → List ℕ → Keep → Said → World → Type 0
Arms w n name keep said after = (said ≡ done (armed_text name keep)) × (after ≡ with_armed w n keep)

-- the site by its number, where it is down
abbrev pub Opens : World → ℕ → List ℕ → Option Standing → Said → World → Type 0
Opens w n name (Some (Down r)) said after = (said ≡ done (open_text name)) × (after ≡ record w { world = with_site w.world n (Up r) })
Opens w n name other said after = IsRefused w (codes "NotClosed " ++ name) said after

-- ---- `reach`: all that chains of related pairs from the item at the site reach, ascending

pub record IsReachText (sites : List Site) (captured : List SiteEvents) (root : Pair) (said : Said) : Type 0 where
  pub pairs : List Pair
  pub ascending : IsStrictlyAscending pairs
  pub reached : (p : Pair) → Contains pairs p ↔ Reaches (Related captured) root p
  pub text : said ≡ done (pairs_text sites pairs)

abbrev pub ReachFrom : World → Pair → Said → World → Type 0
ReachFrom w root said after = WhereAllUp w (first_down w) (IsReachText w.sites (captured_of (records w.world)) root said × (after ≡ w)) said after

abbrev pub ReachRead : World → ℕ → Result (List ℕ) EpcFault → Said → World → Type 0
ReachRead w n (Err fault) said after = IsRefused w (codes "BadEpc") said after
ReachRead w n (Ok item) said after = ReachFrom w (record { site = n; item = item }) said after

-- ---- `quarantine`: what all sites hold under the recall, and whether its initiator has recorded its end

abbrev pub Lists : World → Recall → Option Bool → Said → World → Type 0
Lists w r None said after = IsRefused w (codes "NoRecall") said after
Lists w r (Some ended) said after = (said ≡ done (quarantine_text w.sites (quarantined r (records w.world)) ended)) × (after ≡ w)

abbrev pub ListsAll : World → Recall → Said → World → Type 0
ListsAll w r said after = WhereAllUp w (first_down w) (Lists w r (option_and_then (ended_in r) (up_at w r.site)) said after) said after

-- ---- a task

-- in this world the task has this answer, and leaves that world
abbrev pub DoesTask : World → Task → Said → World → Type 0
DoesTask w (capture name document) said after = AtSite w name (named w.sites name) (λ n. Hands w n (Capture document) [] said after) said after
DoesTask w (reach name item) said after = AtSite w name (named w.sites name) (λ n. ReachRead w n (reading item) said after) said after
DoesTask w (recall name item) said after = AtSite w name (named w.sites name) (λ n. RecallRead w n (reading item) said after) said after
DoesTask w (send name number) said after =
    AtSite w name (named w.sites name) (λ n. WhereUp w n (up_at w n) (λ old. Sends w (row_frame number old) said after) said after) said after
DoesTask w (signal name sender number) said after =
    AtSite w name (named w.sites name)
    (λ n. AtSite w sender (named w.sites sender)
    (λ s. WhereUp w n (up_at w n) (λ old. Sends w (owed_signal (record { site = s; number = number }) old) said after) said after) said after)
    said after
DoesTask w (deliver place) said after = Delivers w (frame_at w.world.sent place) said after
DoesTask w (stop name keep) said after =
    AtSite w name (named w.sites name) (λ n. WhereUp w n (up_at w n) (λ old. Arms w n name keep said after) said after) said after
DoesTask w (reopen name) said after = AtSite w name (named w.sites name) (λ n. Opens w n name (slice_get w.world.sites n) said after) said after
DoesTask w (pump rounds) said after = Pumps rounds w said after
DoesTask w (quarantine name number) said after =
    AtSite w name (named w.sites name) (λ n. ListsAll w (record { site = n; number = number }) said after) said after
