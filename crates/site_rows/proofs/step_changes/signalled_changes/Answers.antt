use Rattle.std.proofs.Common.{subst, ◌∙◌}
use Rattle.std.proofs.lemmas.Result.{IfOk-weaker}
use Rattle.frame_core.specs.Numbers.{Recall}
use Rattle.site_rows.proofs.ClearsLead.{clear_changes}
use Rattle.site_rows.proofs.StepsLead.{AreEndedRows, signal_clears, signal_leaves, signal_ends}
use Rattle.site_rows.proofs.step_changes.signalled_changes.Goals as goal

pub returns-in-Cleared : goal.returns-in-Cleared
returns-in-Cleared c = λ m by new at does. IfOk-weaker c.cleared_changes.result _ _
    (λ changes is. signal_clears c.args.old.now new m by c.args.effects.now c.args.number at does c.in-Cleared.is changes
    (is ∙ (λ i. clear_changes c.args.number (c.new.ensures i) (c.new-in-Cleared.ensures i)))) c.cleared_changes.ensures

pub returns-in_ok-left-in-ParentDue : goal.returns-in_ok-left-in-ParentDue
returns-in_ok-left-in-ParentDue c = λ m by new at does. IfOk-weaker c.cleared_changes-in-ParentDue.result _ _
    (λ changes is. signal_leaves c.args.old.now new m by c.args.effects.now c.args.number at does c.in-ParentDue.field-0 c.in-ParentDue.is
    c.in_ok-left-in-ParentDue.left c.in_ok-left-in-ParentDue.ensures changes
    (is ∙ (λ i. clear_changes c.args.number c.in_ok-left-in-ParentDue.left (c.new-in-ParentDue.ensures i)))) c.cleared_changes-in-ParentDue.ensures

pub returns-in_ok-ended-in-Ended : goal.returns-in_ok-ended-in-Ended
returns-in_ok-ended-in-Ended c = λ m by new at does. IfOk-weaker c.cleared_changes-in-Ended.result _ _
    (λ changes is. signal_ends c.args.old.now new m by c.args.effects.now c.args.number at does c.in-Ended.recall c.in-Ended.is
    c.in_ok-ended-in-Ended.ended (subst (λ (r : Recall). AreEndedRows c.args.old.now r.number c.in_ok-ended-in-Ended.ended) c.recall.view_is c.in_ok-ended-in-Ended.ensures) changes
    (is ∙ (λ i. clear_changes c.args.number (c.new-in-Ended.ensures i) c.in_ok-ended-in-Ended.ended))) c.cleared_changes-in-Ended.ensures
