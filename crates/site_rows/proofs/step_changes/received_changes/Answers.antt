use Rattle.std.proofs.Common.{map, ◌∙◌}
use Rattle.site_rows.proofs.StepsLead.{receive_leads}
use Rattle.site_rows.specs.RecordRows.{quarantine_row}
use Rattle.site_rows.proofs.step_changes.received_changes.Goals as goal

pub returns : goal.returns
returns c = λ old dest item quarantined count takes undo.
    receive_leads old c.args.new.now c.args.message dest c.args.recall item quarantined count c.args.owed takes
    c.args.undo.now.next_message undo.next c.args.undo.now.held.items undo.held
    c.in_ok-quarantine.quarantine c.in_ok-outbox.outbox (c.in_ok-quarantine.ensures ∙ (λ i. map (quarantine_row c.args.recall) (c.deref.ensures.value i))) c.in_ok-outbox.ensures
    _ (λ i. record {
      event = c.new.ensures i;
      part = c.new-2.ensures i;
      pack = c.new-3.ensures i;
      packed = c.new-4.ensures i;
      quarantine = c.in_ok-quarantine.quarantine;
      outbox = c.in_ok-outbox.outbox;
      seen = c.in_ok-seen.ensures i;
      parent = c.in_ok-parent.ensures i;
      signalled = c.new-5.ensures i;
      left = c.new-6.ensures i;
      recall = c.new-7.ensures i;
      numbers = c.in_ok-numbers.ensures old.engagement undo.next i;
    })
