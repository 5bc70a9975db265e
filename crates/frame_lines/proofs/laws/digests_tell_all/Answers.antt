use Rattle.frame_lines.proofs.DigestLemmas.{digests_tell_all}
use Rattle.frame_lines.proofs.laws.digests_tell_all.Goals as goal

pub returns : goal.returns
returns c = digests_tell_all
