use Rattle.std.proofs.Common.{◌≡◌, ℕ, get_or, length}
use Rattle.std.specs.FinMap.{empty}
use Rattle.site_recovery.proofs.reached_items.nothing_held.Given as goal

-- as many as counted, and none of them holds anything
abbrev pub invariant-loop : goal.invariant-loop
invariant-loop l = record {
  count : length l.reached.items ≡ l.counter;
  none : (k : ℕ) → get_or l.reached.items k empty ≡ empty;
}
