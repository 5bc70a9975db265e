use Rattle.std.proofs.Common.{◌≡◌, take}
use Rattle.gap_core.specs.Adding.{AddsTo, ByOne}
use Rattle.gap_core.specs.Batches.{KeepsPlace}
use Rattle.gap_core.proofs.outside.note_texts.Given as goal

-- under the texts so far
abbrev pub invariant-loop-text : goal.invariant-loop-text
invariant-loop-text l = AddsTo (KeepsPlace l.fn.outside) (KeepsPlace l.outside) (ByOne (take l.text-index l.texts) (λ text m. (text ≡ m.0) × (l.place ≡ m.1)))
