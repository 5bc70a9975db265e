-- The frames that a record makes emittable, by what they are about.
use Rattle.std.specs.Prelude.{ℕ, Option}
use Rattle.frame_core.specs.Numbers.{Message as MessageId}
use Rattle.frame_core.specs.declared.frames.Frame.{Frame}
use Rattle.site_core.specs.Naming.{frame_named}
use Rattle.site_core.specs.Records.{Record}
use Rattle.site_core.specs.declared.naming.FrameName.TheVariants.{Message, Signal}

-- the message of the outbox row that has a number
abbrev pub row_frame : ℕ → Record → Option Frame
row_frame number r = frame_named r.engagement (Message number)

-- the signal of a message, where it was seen and is no parent
abbrev pub owed_signal : MessageId → Record → Option Frame
owed_signal m r = frame_named r.engagement (Signal m)
