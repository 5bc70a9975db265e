use Rattle.std.specs.FinMap.{entries}
use Rattle.std.specs.List.{Contains}
use Rattle.query_core.proofs.Keeping.{InSets}
use Rattle.item_spellings.specs.LotParts.{IsLot}
use Rattle.folder_questions.proofs.LotLemmas.{AddsLeft}
use Rattle.folder_questions.proofs.lots.note_held.Given as goal

-- with those that are left, all are noted
abbrev pub invariant-loop-items : goal.invariant-loop-items
invariant-loop-items l = AddsLeft (Contains l.fn.lots.items) (Contains l.lots.items) (λ i. InSets l.items-iterator i × IsLot i) (λ i. InSets (entries l.quarantine) i × IsLot i)
