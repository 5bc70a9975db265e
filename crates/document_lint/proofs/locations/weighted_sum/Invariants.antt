use Rattle.std.proofs.Common.{◌≡◌, ◌+◌, ◌*◌, ◌≤◌, drop}
use Rattle.epc_core.specs.Numbers.{weighted}
use Rattle.document_lint.proofs.locations.weighted_sum.Given as goal

-- the sum so far and that of the rest are the whole one
abbrev pub invariant-loop-digit : goal.invariant-loop-digit
invariant-loop-digit l = record {
  value : l.sum + weighted l.weight l.next (drop l.digit-index l.digits) ≡ weighted 1 3 l.digits;
  small : l.sum ≤ 27 * l.digit-index;
  weight : l.weight ≤ 3;
  next : l.next ≤ 3;
}
