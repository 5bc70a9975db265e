use Rattle.world_core.proofs.Emitted.{frames_were_emittable}
use Rattle.world_core.proofs.laws.frames_were_emittable.Goals as goal

pub returns : goal.returns
returns c = frames_were_emittable
