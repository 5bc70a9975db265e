use Rattle.std.proofs.Common.{Some, map, subst, ◌∙◌}
use Rattle.frame_core.specs.Numbers.{Recall}
use Rattle.site_rows.proofs.StepsLead.{AreOwnRows, start_leads}
use Rattle.site_rows.specs.RecordRows.{quarantine_row}
use Rattle.site_rows.proofs.step_changes.begun_changes.Goals as goal

pub returns : goal.returns
returns c = λ old root quarantined count ended starts undo.
    start_leads old c.args.new.now root c.args.recall quarantined count ended starts
    c.args.undo.now.next_message undo.next c.args.undo.now.held.items undo.held
    c.in_ok-quarantine.quarantine c.in_ok-outbox.outbox c.in_ok-own.own
    (c.in_ok-quarantine.ensures ∙ (λ i. map (quarantine_row c.args.recall) (c.deref.ensures.value i))) c.in_ok-outbox.ensures (subst (λ (r : Recall). AreOwnRows c.args.new.now r.number c.in_ok-own.own) c.recall.view_is c.in_ok-own.ensures)
    _ (λ i. record {
      event = c.new.ensures i;
      part = c.new-2.ensures i;
      pack = c.new-3.ensures i;
      packed = c.new-4.ensures i;
      quarantine = c.in_ok-quarantine.quarantine;
      outbox = c.in_ok-outbox.outbox;
      seen = c.new-5.ensures i;
      parent = c.new-6.ensures i;
      signalled = c.new-7.ensures i;
      left = c.new-8.ensures i;
      recall = c.in_ok-own.own;
      numbers = Some (c.in_ok-numbers.ensures i);
    })
