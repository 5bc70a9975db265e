use Rattle.std.proofs.Common.{subst}
use Rattle.frame_core.specs.declared.frames.Frame.{Frame}
use Rattle.site_core.specs.Steps.{Does}
use Rattle.site_core.specs.declared.inputs.SiteInput.TheVariants.{Deliver}
use Rattle.site_rows.proofs.StepsKeep.{always_ok, take_keeps}
use Rattle.site_rows.proofs.step_changes.delivered_changes.Goals as goal

pub returns-in-Recall-clause-items : goal.returns-in-Recall-clause-items
returns-in-Recall-clause-items c = λ old does was it.
    let told = c.args.effects.now in
    let new = c.args.new.now in
    let done = subst (λ (f : Frame). Does old (Deliver f) told new) c.in-Recall.is does in
    always_ok c.taken_changes.result (take_keeps old new _ _ _ _ told (c.form-form.ensures.is_key, c.form-form.ensures.text) done was it)
