use Rattle.frame_lines.proofs.ChainLemmas.{IsUtf8-chain}
use Rattle.frame_lines.proofs.chains.ChainId.as_str.Goals as goal

pub unreachable-requires : goal.unreachable-requires
unreachable-requires c = c.in-Err.ensures.cases.0 (IsUtf8-chain c.self.inside.digits c.self.invariant)
