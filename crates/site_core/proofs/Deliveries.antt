-- A frame does something, or is refused for its numbers, only at the site that it is for.
use Rattle.std.proofs.Common.{ℕ, List}
use Rattle.frame_core.specs.declared.frames.Frame.TheVariants as frames
use Rattle.frame_core.specs.Numbers.{Recall, Message}
use Rattle.site_core.specs.declared.inputs.SiteInput.TheVariants.{Deliver}
use Rattle.site_core.specs.declared.outcomes.Effects.{Effects}
use Rattle.site_core.specs.declared.outcomes.Effects.TheVariants as effects
use Rattle.site_core.specs.Records.{Record}
use Rattle.site_core.specs.Steps.{Does, IsForSite}
use Rattle.site_core.specs.StepLaws.{MessagesAreForTheSite, SignalsAreOfTheSite}

message_done : (s t : Record) (m : Message) (dest : ℕ) (r : Recall) (i : List ℕ) (e : Effects) → Does s (Deliver (frames.Recall m dest r i)) e t → IsForSite s m dest r
message_done s t m dest r i (effects.Received a b c) h = h.may.mine
message_done s t m dest r i effects.Repeat h = h.0.mine
message_done s t m dest r i other h = absurd h

pub messages_are_for_the_site : MessagesAreForTheSite
messages_are_for_the_site s t m dest r i = (λ e h. message_done s t m dest r i e h, λ h. h.may.mine)

pub signals_are_of_the_site : SignalsAreOfTheSite
signals_are_of_the_site s t m by effects.Stale h = h.0.mine
signals_are_of_the_site s t m by effects.Cleared h = h.has.mine
signals_are_of_the_site s t m by (effects.ParentDue parent) h = h.has.mine
signals_are_of_the_site s t m by (effects.Ended recall) h = h.has.mine
signals_are_of_the_site s t m by other h = absurd h
