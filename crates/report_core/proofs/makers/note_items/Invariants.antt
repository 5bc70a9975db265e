use Rattle.std.proofs.Common.{◌≡◌, take}
use Rattle.report_core.specs.Sources.{AddsTo, ByOne, IsWanted, Keeps}
use Rattle.report_core.proofs.makers.note_items.Given as goal

-- under the items so far
abbrev pub invariant-loop-item : goal.invariant-loop-item
invariant-loop-item l = AddsTo (Keeps l.fn.index) (Keeps l.index) (ByOne (take l.item-index l.items) (λ i m. IsWanted l.wanted i × (i ≡ m.0) × (l.place ≡ m.1)))
