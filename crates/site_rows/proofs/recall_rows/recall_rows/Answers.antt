use Rattle.std.proofs.Common.{ℕ, map}
use Rattle.std.specs.Cmp.{nat_cmp_total}
use Rattle.std.specs.FinMap.{entries, nat_cmp-IsAntisymmetric}
use Rattle.scholten_core.specs.declared.own_recalls.Own.{Own}
use Rattle.site_core.proofs.Entries.{entry_there}
use Rattle.site_core.proofs.OneAfterAnother.{one_passed, all_passed}
use Rattle.site_rows.specs.RecordRows.{recall_row}
use Rattle.site_rows.specs.Texts.{IsItemText}
use Rattle.site_rows.proofs.InTurn.{one_more}
use Rattle.site_rows.proofs.recall_rows.recall_rows.Goals as goal

pub loop-number-preserved : goal.loop-number-preserved
loop-number-preserved c =
    let all = entries c.args.state.now.engagement.own in
    let here : ℕ × Own = (c.in-Some.number.now, c.in-Some.own.now) in
    record {
      rows = rw (c.in_ok-push.ensures.items, c.in_ok-own_row.ensures.row) (one_more recall_row c.loop-number.number-iterator c.next.new.self here c.loop-number.rows.items (map recall_row all) c.in-Some.ensures.steps c.loop-number.invariant.rows);
      items = one_passed (λ (e : ℕ × Own). IsItemText e.1.root) all c.loop-number.number-iterator c.next.new.self here c.in-Some.ensures.steps c.in_ok-own_row.ensures.item c.loop-number.invariant.items;
    }

pub returns-clause-items : goal.returns-clause-items
returns-clause-items c = λ number found at.
    let all = c.args.state.now.engagement.own in
    all_passed (λ (e : ℕ × Own). IsItemText e.1.root) (entries all) c.loop-number.number-iterator c.in-None.ensures.steps.0 c.loop-number.invariant.items (number, found) (entry_there nat_cmp_total nat_cmp-IsAntisymmetric all number found at)
