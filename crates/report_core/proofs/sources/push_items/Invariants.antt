use Rattle.std.proofs.Common.{◌≡◌, ℕ, List, take}
use Rattle.trace_core.specs.declared.pairs.Pair.{Pair}
use Rattle.report_core.specs.Sources.{AddsToList, ByOne}
use Rattle.report_core.proofs.sources.push_items.Given as goal

-- the items so far
abbrev pub invariant-loop-item : goal.invariant-loop-item
invariant-loop-item l = AddsToList l.fn.found.items l.found.items (ByOne (take l.item-index l.items) (λ (i : List ℕ) (q : Pair). record { site = l.site; item = i } ≡ q))
