use Rattle.std.proofs.Common.{◌≡◌, ◌++◌, ℕ, map}
use Rattle.std.specs.Borrow.{Bor}
use Rattle.trace_core.proofs.MarkSteps.{AreMarked}
use Rattle.trace_core.proofs.marks.marks_of_set.Given as goal

-- the marks at the numbers so far are set
abbrev pub invariant-loop-number : goal.invariant-loop-number
invariant-loop-number l = record {
  marked : AreMarked l.marks.items l.len (map (λ (r : Bor ℕ). r.now) l.yielded);
  parts : l.fn.numbers.keys ≡ map (λ (r : Bor ℕ). r.now) l.yielded ++ l.number-iterator;
}
