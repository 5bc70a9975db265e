use Rattle.std.proofs.Common.{All}
use Rattle.std.specs.FinMap.{entries}
use Rattle.std.specs.List.{flat_map}
use Rattle.frame_core.specs.Numbers.{Recall}
use Rattle.frame_core.specs.Orders.{recall_total, recall_exact}
use Rattle.site_core.specs.ItemSets as set
use Rattle.site_core.specs.Quarantines.{Items}
use Rattle.site_core.proofs.Entries.{entry_there}
use Rattle.site_core.proofs.OneAfterAnother.{one_passed, all_passed}
use Rattle.site_rows.specs.RecordRows.{quarantine_rows}
use Rattle.site_rows.specs.Texts.{IsItemText}
use Rattle.site_rows.proofs.InTurn.{some_more}
use Rattle.site_rows.proofs.recall_rows.quarantine_rows.Goals as goal

pub loop-recall-preserved : goal.loop-recall-preserved
loop-recall-preserved c =
    let all = entries c.args.quarantine.now in
    let here : Recall × Items = (c.in-Some.recall.now, c.in-Some.items.now) in
    record {
      rows = rw c.in_ok-push_held.ensures.rows (some_more quarantine_rows c.loop-recall.recall-iterator c.next.new.self here c.loop-recall.rows.items (flat_map quarantine_rows all) c.in-Some.ensures.steps c.loop-recall.invariant.rows);
      items = one_passed (λ (e : Recall × Items). All IsItemText (set.items e.1)) all c.loop-recall.recall-iterator c.next.new.self here c.in-Some.ensures.steps c.in_ok-push_held.ensures.items c.loop-recall.invariant.items;
    }

pub returns-clause-items : goal.returns-clause-items
returns-clause-items c = λ r items at.
    let q = c.args.quarantine.now in
    all_passed (λ (e : Recall × Items). All IsItemText (set.items e.1)) (entries q) c.loop-recall.recall-iterator c.in-None.ensures.steps.0 c.loop-recall.invariant.items (r, items) (entry_there recall_total recall_exact q r items at)
