-- Frames by the sites that they go between.
use Rattle.std.specs.Prelude.{◌≡◌, ℕ, ◌&&◌, nat_eq, List, filter, Contains}
use Rattle.frame_core.specs.declared.frames.Frame.{Frame}
use Rattle.frame_core.specs.declared.frames.Frame.TheVariants as frames
use Rattle.site_core.specs.declared.inputs.SiteInput.{SiteInput}
use Rattle.site_core.specs.declared.inputs.SiteInput.TheVariants.{Deliver}
use Rattle.world_core.specs.Turns.{addressee}

-- the site that sends a frame: a message names it, and a signal comes from the site that signals
abbrev pub sender : Frame → ℕ
sender (frames.Recall m dest r i) = m.site
sender (frames.Signal m by) = by

-- those of the frames that go from one site to another, in order
abbrev pub way : ℕ → ℕ → List Frame → List Frame
way from to frames = filter (λ f. nat_eq (sender f) from && nat_eq (addressee f) to) frames

-- a frame that the input delivers is one of these
abbrev pub DeliversOneOf : List Frame → SiteInput → Type 0
DeliversOneOf frames input = (f : Frame) → input ≡ Deliver f → Contains frames f
