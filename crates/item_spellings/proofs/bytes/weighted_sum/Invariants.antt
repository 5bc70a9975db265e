use Rattle.std.proofs.Common.{◌≡◌, ◌+◌, ◌*◌, ◌≤◌, drop}
use Rattle.epc_core.specs.Numbers.{weighted}
use Rattle.item_spellings.proofs.bytes.weighted_sum.Given as goal

abbrev pub invariant-loop-digit : goal.invariant-loop-digit
invariant-loop-digit l = record {
  value : l.sum + weighted l.weight l.next (drop l.digit-index l.digits) ≡ weighted l.first l.second l.digits;
  small : l.sum ≤ 27 * l.digit-index;
  weight : l.weight ≤ 3;
  next : l.next ≤ 3;
}
