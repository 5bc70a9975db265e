use Rattle.world_core.proofs.Addressed.{frames_find_their_site}
use Rattle.world_core.proofs.laws.a_frame_finds_its_site.Goals as goal

pub returns : goal.returns
returns c = frames_find_their_site
