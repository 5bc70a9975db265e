use Rattle.std.proofs.Common.{length, subst}
use Rattle.std.proofs.lemmas.Result.{IfOk-weaker}
use Rattle.site_core.specs.Steps.{Does}
use Rattle.site_core.specs.declared.inputs.SiteInput.{SiteInput}
use Rattle.site_rows.specs.EventTexts.{EachFrom}
use Rattle.site_rows.specs.Laws.{IsEventAmong}
use Rattle.site_rows.proofs.StepsKeep.{always_ok, capture_keeps, start_keeps}
use Rattle.site_rows.proofs.step_changes.changes_of.Goals as goal

pub returns-in-Capture-clause-items : goal.returns-in-Capture-clause-items
returns-in-Capture-clause-items c = λ old does undo was it.
    let new = c.args.new.now in
    let done = subst (λ (i : SiteInput). Does old i c.args.effects.now new) c.in-Capture.is does in
    IfOk-weaker c.captured_changes.result _ _
    (λ _ each. capture_keeps old new _ c.args.effects.now done (subst (λ from. EachFrom (IsEventAmong (length new.sites)) from new.captured.events) undo.events each) was it)
    c.captured_changes.ensures.events

pub returns-in-Start-clause-items : goal.returns-in-Start-clause-items
returns-in-Start-clause-items c = λ old does undo was it.
    let done = subst (λ (i : SiteInput). Does old i c.args.effects.now c.args.new.now) c.in-Start.is does in
    always_ok c.started_changes.result (start_keeps old c.args.new.now _ c.args.effects.now done was it)
