use Rattle.std.proofs.Common.{take, Bor}
use Rattle.gap_core.specs.Adding.{AddsToList, ByOne}
use Rattle.site_core.specs.Records.{Record}
use Rattle.folder_questions.specs.Lots.{IsFreeAt}
use Rattle.folder_questions.proofs.lots.note_lot.Given as goal

-- the sites so far
abbrev pub invariant-loop-state : goal.invariant-loop-state
invariant-loop-state l = AddsToList l.fn.found.items l.found.items (ByOne (take l.state-index l.records) (λ (r : Bor Record). IsFreeAt l.lot r.now))
