-- The frames that a site may send, in order.
use Rattle.std.specs.Prelude.{ℕ, zero, suc, Bool, not, List, ◌++◌, map, filter, slice_get, Option, None}
use Rattle.std.specs.FinMap.{entries, values}
use Rattle.std.specs.List.{list_any}
use Rattle.frame_core.specs.Identifiers.{same_message}
use Rattle.frame_core.specs.Numbers.{Message}
use Rattle.frame_core.specs.declared.frames.Frame.{Frame}
use Rattle.frame_core.specs.declared.frames.Frame.TheVariants as frames
use Rattle.frame_core.specs.declared.rows.Row.{Row}
use Rattle.scholten_core.specs.Engagement.{Engagement}

-- the message of an outbox row
abbrev pub message_frame : ℕ → ℕ × Row → Frame
message_frame me e = frames.Recall (record { site = me; number = e.0 }) e.1.dest e.1.recall e.1.item

-- the signal of a message
abbrev pub signal_frame : ℕ → Message → Frame
signal_frame me m = frames.Signal m me

-- the message is the parent of some recall
abbrev pub is_parent : Engagement → Message → Bool
is_parent e m = list_any (λ parent. same_message parent m) (values e.parents)

-- the message of each outbox row, by number
abbrev pub message_frames : Engagement → List Frame
message_frames e = map (message_frame e.me) (entries e.outbox)

-- the signal of each seen message that is no parent, by sender and number
abbrev pub signal_frames : Engagement → List Frame
signal_frames e = map (λ s. signal_frame e.me s.0) (filter (λ s. not (is_parent e s.0)) (entries e.seen))

-- first the messages, then the signals
abbrev pub emittable : Engagement → List Frame
emittable e = message_frames e ++ signal_frames e

-- the frame at a place, from 1
abbrev pub frame_at : Engagement → ℕ → Option Frame
frame_at e zero = None
frame_at e (suc place) = slice_get (emittable e) place
