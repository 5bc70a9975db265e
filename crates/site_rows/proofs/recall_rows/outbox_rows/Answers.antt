use Rattle.std.proofs.Common.{ℕ, map}
use Rattle.std.specs.Cmp.{nat_cmp_total}
use Rattle.std.specs.FinMap.{entries, nat_cmp-IsAntisymmetric}
use Rattle.frame_core.specs.declared.rows.Row.{Row}
use Rattle.site_core.proofs.Entries.{entry_there}
use Rattle.site_core.proofs.OneAfterAnother.{one_passed, all_passed}
use Rattle.site_rows.specs.RecordRows.{outbox_row}
use Rattle.site_rows.specs.Texts.{IsItemText}
use Rattle.site_rows.proofs.InTurn.{one_more}
use Rattle.site_rows.proofs.recall_rows.outbox_rows.Goals as goal

pub loop-number-preserved : goal.loop-number-preserved
loop-number-preserved c =
    let all = entries c.args.state.now.engagement.outbox in
    let here : ℕ × Row = (c.in-Some.number.now, c.in-Some.row.now) in
    record {
      rows = rw (c.in_ok-push.ensures.items, c.in_ok-message_row.ensures.row) (one_more outbox_row c.loop-number.number-iterator c.next.new.self here c.loop-number.rows.items (map outbox_row all) c.in-Some.ensures.steps c.loop-number.invariant.rows);
      items = one_passed (λ (e : ℕ × Row). IsItemText e.1.item) all c.loop-number.number-iterator c.next.new.self here c.in-Some.ensures.steps c.in_ok-message_row.ensures.item c.loop-number.invariant.items;
    }

pub returns-clause-items : goal.returns-clause-items
returns-clause-items c = λ number found at.
    let all = c.args.state.now.engagement.outbox in
    all_passed (λ (e : ℕ × Row). IsItemText e.1.item) (entries all) c.loop-number.number-iterator c.in-None.ensures.steps.0 c.loop-number.invariant.items (number, found) (entry_there nat_cmp_total nat_cmp-IsAntisymmetric all number found at)
