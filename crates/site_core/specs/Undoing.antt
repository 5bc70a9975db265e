-- What takes a step back that was done in place.
use Rattle.std.specs.Prelude.{◌≡◌, ◌⊎◌, ⊤, ℕ, List, [], length, take, Option, Some, None}
use Rattle.std.specs.FinMap.{get}
use Rattle.frame_core.specs.declared.frames.Frame.{Frame}
use Rattle.frame_core.specs.declared.frames.Frame.TheVariants as frames
use Rattle.frame_core.specs.Numbers.{Recall, Message}
use Rattle.scholten_core.specs.Changes.{next_own, begun, received}
use Rattle.scholten_core.specs.FreeNumbers.{HasFreeNumbers}
use Rattle.site_core.specs.declared.inputs.SiteInput.{SiteInput}
use Rattle.site_core.specs.declared.inputs.SiteInput.TheVariants.{Start, Deliver}
use Rattle.scholten_core.specs.declared.outcomes.Received.{Received}
use Rattle.site_core.specs.declared.outcomes.Effects.{Effects}
use Rattle.site_core.specs.declared.outcomes.Effects.TheVariants as effects
use Rattle.site_core.specs.declared.undoing.StepUndo.{StepUndo}
use Rattle.site_core.specs.Quarantines.{with_items}
use Rattle.site_core.specs.Records.{Record, IsSound}
use Rattle.site_core.specs.Spreading.{AreNewlyHeld}
use Rattle.site_core.specs.Steps.{reply}

-- the input is a signal
abbrev pub IsSignal : SiteInput → Type 0
IsSignal (Deliver (frames.Signal m by)) = ⊤
IsSignal other = ⊥

-- the input is a start, or a message that wasn't seen: these number messages
abbrev pub MayNumber : Record → SiteInput → Type 0
MayNumber s (Start root) = ⊤
MayNumber s (Deliver (frames.Recall m dest r i)) = get s.engagement.seen m ≡ None
MayNumber s other = ⊥

-- the items that come under a recall by a message, none where it was seen before
abbrev pub NewlyHeldOnce : Record → Option Recall → Recall → List ℕ → List (List ℕ) → Type 0
NewlyHeldOnce s (Some under) r i items = items ≡ []
NewlyHeldOnce s None r i items = AreNewlyHeld s.captured s.quarantine r i items

-- the items that come under a recall by the input
abbrev pub NewlyHeldBy : Record → SiteInput → List (List ℕ) → Type 0
NewlyHeldBy s (Start root) items = AreNewlyHeld s.captured s.quarantine (next_own s.engagement) root items
NewlyHeldBy s (Deliver (frames.Recall m dest r i)) items = NewlyHeldOnce s (get s.engagement.seen m) r i items
NewlyHeldBy s other items = items ≡ []

-- the record where numbers that come next are taken already and the input may number messages, and none else
abbrev pub IsWholeBefore : Record → SiteInput → Option Record → Type 0
IsWholeBefore s input whole = (whole ≡ Some s) ⊎ ((whole ≡ None) × (MayNumber s input → HasFreeNumbers s.engagement))

-- how many events stood before the input, the next number, what came under a recall; and, where they don't tell it, the
-- record as it was
pub record IsUndoOf (u : StepUndo) (old : Record) (input : SiteInput) : Type 0 where
  pub sound : IsSound old
  pub events : u.captured ≡ length old.captured.events
  pub next : u.next_message ≡ old.engagement.next_message
  pub held : NewlyHeldBy old input u.held.items
  pub whole : IsWholeBefore old input u.whole

-- What a record came from, by what tells it: so many events stood, this was the next message's number, and these items
-- came under a recall.

-- events were captured
pub record CapturedFrom (old now : Record) (captured : ℕ) : Type 0 where
  pub sound : IsSound old
  pub front : take captured now.captured.events ≡ old.captured.events
  pub rest : now ≡ record old { captured = record old.captured { events = now.captured.events } }

-- a recall was started, at free numbers
pub record StartedFrom (old now : Record) (first : ℕ) (held : List (List ℕ)) : Type 0 where
  pub sound : IsSound old
  pub free : HasFreeNumbers old.engagement
  pub next : old.engagement.next_message ≡ first
  pub root : List ℕ
  pub out : List (ℕ × List ℕ)
  pub newly : AreNewlyHeld old.captured old.quarantine (next_own old.engagement) root held
  pub after : now ≡ record old { quarantine = with_items old.quarantine (next_own old.engagement) held; engagement = begun old.engagement root out }

-- a message was received, at free numbers
pub record ReceivedFrom (old now : Record) (m : Message) (r : Recall) (answer : Received) (first : ℕ) (held : List (List ℕ)) : Type 0 where
  pub sound : IsSound old
  pub free : HasFreeNumbers old.engagement
  pub next : old.engagement.next_message ≡ first
  pub item : List ℕ
  pub out : List (ℕ × List ℕ)
  pub newly : AreNewlyHeld old.captured old.quarantine r item held
  pub engaged : received old.engagement m r out ≡ (now.engagement, answer)
  pub after : now ≡ record old { quarantine = with_items old.quarantine r held; engagement = now.engagement }

-- a message was taken, with these effects; a repeat changed nothing
abbrev pub TookFrom : Record → Record → Message → Recall → Effects → ℕ → List (List ℕ) → Type 0
TookFrom old now m r (effects.Received quarantined numbered owed) first held = ReceivedFrom old now m r (reply numbered owed) first held
TookFrom old now m r effects.Repeat first held = now ≡ old
TookFrom old now m r other first held = ⊥

-- a message was taken, and no signal
abbrev pub TookFrame : Record → Record → Frame → Effects → ℕ → List (List ℕ) → Type 0
TookFrame old now (frames.Recall m dest r i) told first held = TookFrom old now m r told first held
TookFrame old now (frames.Signal m by) told first held = ⊥
