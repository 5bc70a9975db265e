use Rattle.std.proofs.Common.{[], take, Bor}
use Rattle.gap_core.specs.Adding.{AddsToList, ByOne}
use Rattle.site_core.specs.Records.{Record}
use Rattle.site_recovery.specs.Checking.{records_at}
use Rattle.folder_questions.specs.Lots.{HoldsLot, IsFreeAt}
use Rattle.folder_questions.proofs.lots.lot_gaps.Given as goal

-- the lots of the sites so far
abbrev pub invariant-loop-state : goal.invariant-loop-state
invariant-loop-state l = AddsToList [] l.lots.items (ByOne (take l.state-index l.records) (λ (r : Bor Record). HoldsLot r.now.quarantine))

-- the gaps of the lots so far
abbrev pub invariant-loop-lot : goal.invariant-loop-lot
invariant-loop-lot l = AddsToList [] l.found.items (ByOne (take l.lot-index l.lot-items) (λ lot. ByOne (records_at l.records) (IsFreeAt lot)))
