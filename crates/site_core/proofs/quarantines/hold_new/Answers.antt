use Rattle.std.proofs.Common.{◌≡◌, false, sym, subst, ap, ◌∙◌}
use Rattle.frame_core.specs.Identifiers.{recall_cmp}
use Rattle.frame_core.specs.Tables.{as_map}
use Rattle.site_core.specs.HeldIndex.{IsIndex}
use Rattle.site_core.specs.Quarantines.{held, with_item}
use Rattle.site_core.proofs.HeldIndex.{index_with, index_back}
use Rattle.site_core.proofs.quarantines.hold_new.Goals as goal

pub returns-in-Ok-clause-index : goal.returns-in-Ok-clause-index
returns-in-Ok-clause-index c is =
    let q = as_map recall_cmp c.args.recalls.now in
    subst (IsIndex c.note.new.index) (sym (c.in-Ok.ensures.ok ∙ ap (with_item q c.args.recall) c.in_ok-own.ensures))
    (index_with c.args.index.now c.note.new.index q c.args.recall c.args.item.now is c.in_ok-note.ensures.ok)

pub returns-in-Err-clause-index : goal.returns-in-Err-clause-index
returns-in-Err-clause-index c is =
    let q = as_map recall_cmp c.args.recalls.now in
    subst (IsIndex c.forget.new.index) (sym c.in-Err.ensures.err)
    (index_back c.args.index.now c.note.new.index c.forget.new.index q c.args.recall c.args.item.now is c.in_ok-note.ensures.ok c.forget.ensures
    (subst (λ i. held q c.args.recall i ≡ false) c.in_ok-own.ensures c.in-Err.ensures.only_new))
