-- What the calls on a seat may be asked, and what they return.
use Rattle.std.specs.Prelude.{◌≡◌, ◌≢◌, ℕ, ◌^◌, ◌<◌, List, length, Contains}
use Rattle.frame_core.specs.declared.frames.Frame.{Frame}
use Rattle.site_core.specs.Emitting.{emittable}
use Rattle.site_core.specs.Records.{Record}
use Rattle.site_core.specs.declared.inputs.SiteInput.{SiteInput}
use Rattle.keeper_core.specs.Keeping.{IsAfter}
use Rattle.world_core.specs.Turns.{addressee}
use Rattle.wire_core.specs.declared.calls.Post.{Post}
use Rattle.wire_core.specs.declared.calls.Post.TheVariants.{Posted, Full}
use Rattle.wire_core.specs.declared.views.Log.{Log}
use Rattle.wire_core.specs.Frames.{sender, DeliversOneOf}

-- the first where the frame was posted, and the second, of the frame that came back, where the mailbox was full
abbrev pub MatchPost : Post → Type 0 → (Frame → Type 0) → Type 0
MatchPost Posted P Q = P
MatchPost (Full f) P Q = Q f

-- a site is among these
abbrev pub Holds : ℕ → List Log → Type 0
Holds site logs = (e : Log) × Contains logs e × (e.site ≡ site)

-- of so many sites, the frame's sender is among these, its record last marked makes the frame emittable, and it is for
-- another site
pub record MayPost (count : ℕ) (f : Frame) (logs : List Log) : Type 0 where
  pub log : Log
  pub held : Contains logs log
  pub site : log.site ≡ sender f
  pub emitted : Contains (emittable log.last.engagement) f
  pub other : sender f ≢ addressee f
  pub there : addressee f < count

-- of so many sites, the one that takes is among these, and the other is another
pub record MayTake (count me other : ℕ) (logs : List Log) : Type 0 where
  pub held : Holds me logs
  pub apart : other ≢ me
  pub there : other < count

-- the record is that of a site among these, after a step by this input from the record last marked; where the input
-- delivers a frame, the site has noted it; and the site was marked fewer than 2^62 times
pub record MayMark (input : SiteInput) (new : Record) (logs : List Log) : Type 0 where
  pub log : Log
  pub held : Contains logs log
  pub site : log.site ≡ new.engagement.me
  pub after : IsAfter log.last input new
  pub noted : DeliversOneOf log.noted input
  pub room : length log.inputs < 2 ^ 62
