use Rattle.std.proofs.Common.{◌≡◌, ◌*◌, take}
use Rattle.epc_core.proofs.blocks.first_difference.Given as goal

abbrev pub invariant-loop-index : goal.invariant-loop-index
invariant-loop-index l = take (8 * l.index) l.block ≡ take (8 * l.index) l.other
