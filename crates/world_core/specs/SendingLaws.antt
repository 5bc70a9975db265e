-- What was sent was made emittable by a record that a site kept.
use Rattle.std.specs.Prelude.{◌≡◌, ◌⊎◌, ℕ, List, Contains, Some, slice_get}
use Rattle.frame_core.specs.declared.frames.Frame.{Frame}
use Rattle.site_core.specs.Emitting as emitting
use Rattle.site_core.specs.Records.{Record}
use Rattle.world_core.specs.declared.events.WorldEvent.{WorldEvent}
use Rattle.world_core.specs.declared.events.Answer.{Answer}
use Rattle.world_core.specs.Worlds.{Up, WorldState}
use Rattle.world_core.specs.Turns.{GoesBy, Runs}

-- A frame that a run sent was emittable by the record of a site that was up, at a moment of the run.

pub record IsEmittable (world : WorldState) (frame : Frame) : Type 0 where
  pub site : ℕ
  pub record_there : Record
  pub up : slice_get world.sites site ≡ Some (Up record_there)
  pub place : ℕ
  pub emits : emitting.frame_at record_there.engagement place ≡ Some frame

-- the run goes by a world that makes the frame emittable
pub record WasEmittable (old : WorldState) (events : List WorldEvent) (answers : List Answer) (new : WorldState) (frame : Frame) : Type 0 where
  pub mid : WorldState
  pub moment : GoesBy old events answers new mid
  pub emittable : IsEmittable mid frame

abbrev pub FramesWereEmittable : Type 0
FramesWereEmittable =
    (old new : WorldState) (events : List WorldEvent) (answers : List Answer) → Runs old events answers new
    → (frame : Frame) → Contains new.sent frame → Contains old.sent frame ⊎ WasEmittable old events answers new frame
