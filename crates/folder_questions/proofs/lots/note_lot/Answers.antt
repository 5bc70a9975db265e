use Rattle.std.proofs.Common.{Bor}
use Rattle.std.specs.List.{Contains}
use Rattle.gap_core.specs.Adding.{ByOne}
use Rattle.gap_core.proofs.Additions.{adds_alike, all_added, one_more}
use Rattle.site_core.specs.Records.{Record}
use Rattle.site_recovery.specs.Checking.{records_at}
use Rattle.folder_questions.specs.Lots.{IsFreeAt}
use Rattle.folder_questions.proofs.LotLemmas.{by_records}
use Rattle.folder_questions.proofs.lots.note_lot.Goals as goal

pub loop-state-preserved : goal.loop-state-preserved
loop-state-preserved c =
    one_more (λ (r : Bor Record). IsFreeAt c.args.lot.now r.now) c.args.records.now c.loop-state.state-index (Contains c.args.found.now.items) (Contains c.loop-state.found.items) (Contains c.note_at.new.found.items)
    c.state-item.result c.loop-state-test.true c.state-item.is c.loop-state.invariant c.in_ok-note_at.ensures

pub returns : goal.returns
returns c =
    let free = λ (r : Bor Record). IsFreeAt c.args.lot.now r.now in
    adds_alike (Contains c.args.found.now.items) (Contains c.loop-state.found.items) (ByOne c.args.records.now free) (ByOne (records_at c.args.records.now) (IsFreeAt c.args.lot.now)) (by_records c.args.records.now (IsFreeAt c.args.lot.now))
    (all_added free c.args.records.now c.loop-state.state-index (Contains c.args.found.now.items) (Contains c.loop-state.found.items) c.loop-state-test.false c.loop-state.invariant)
