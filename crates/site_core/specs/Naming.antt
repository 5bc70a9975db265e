-- The frames that a site may send, by what they are of.
use Rattle.std.specs.Prelude.{◌≡◌, ◌↔◌, not, ◌&&◌, if◌then◌else◌, Option, Some, None, option_map, is_some, Contains}
use Rattle.std.specs.FinMap.{get}
use Rattle.frame_core.specs.declared.frames.Frame.{Frame}
use Rattle.scholten_core.specs.Engagement.{Engagement}
use Rattle.site_core.specs.declared.naming.FrameName.{FrameName}
use Rattle.site_core.specs.declared.naming.FrameName.TheVariants.{Message, Signal}
use Rattle.site_core.specs.Emitting.{emittable, is_parent, message_frame, signal_frame}

-- a message where it isn't signalled, a signal where its message was seen and is no parent
abbrev pub frame_named : Engagement → FrameName → Option Frame
frame_named e (Message number) = option_map (λ row. message_frame e.me (number, row)) (get e.outbox number)
frame_named e (Signal message) = if is_some (get e.seen message) && not (is_parent e message) then Some (signal_frame e.me message) else None

-- A site may send just the frames that have a name.
abbrev pub FramesHaveNames : Type 0
FramesHaveNames = (e : Engagement) (f : Frame) → Contains (emittable e) f ↔ ((name : FrameName) × (frame_named e name ≡ Some f))
