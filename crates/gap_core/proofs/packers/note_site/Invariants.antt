use Rattle.std.proofs.Common.{◌≡◌, ◌≤◌, Some, slice_get, take}
use Rattle.trace_core.specs.Numbers.{numbered}
use Rattle.gap_core.specs.Adding.{AddsTo, ByOne}
use Rattle.gap_core.specs.Packers.{IsFrom}
use Rattle.gap_core.proofs.packers.note_site.Given as goal

-- the items of the numbers so far
abbrev pub invariant-loop-number : goal.invariant-loop-number
invariant-loop-number l = AddsTo (IsFrom l.fn.packers) (IsFrom l.packers) (ByOne (take l.number-index l.number-items) (λ n m. (slice_get (numbered l.site.events) n ≡ Some m.0) × (l.site.me ≤ m.1)))
