use Rattle.std.specs.List.{Contains}
use Rattle.query_core.proofs.Keeping.{InList}
use Rattle.site_core.specs.ItemSets as set
use Rattle.item_spellings.specs.LotParts.{IsLot}
use Rattle.folder_questions.proofs.LotLemmas.{AddsLeft}
use Rattle.folder_questions.proofs.lots.note_all.Given as goal

-- with those that are left, all are noted
abbrev pub invariant-loop-item : goal.invariant-loop-item
invariant-loop-item l = AddsLeft (Contains l.fn.lots.items) (Contains l.lots.items) (λ i. InList l.item-iterator i × IsLot i) (λ i. InList (set.items l.items) i × IsLot i)
