use Rattle.gap_core.proofs.PackClosing.{captured_packs_close}
use Rattle.gap_core.proofs.laws.captured_packs_close.Goals as goal

pub returns : goal.returns
returns c = captured_packs_close
