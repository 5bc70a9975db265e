use Rattle.std.proofs.Common.{arith}
use Rattle.std.proofs.lemmas.Grind.{common_steps}
use Rattle.site_core.specs.ItemSets as set
use Rattle.site_core.proofs.OneAfterAnother.{one_passed, all_passed}
use Rattle.site_rows.specs.Texts.{IsItemText}
use Rattle.site_rows.proofs.EachShown.{all_of_members}
use Rattle.site_rows.proofs.recall_rows.push_held.Goals as goal

pub loop-item-preserved : goal.loop-item-preserved
loop-item-preserved c = record {
  rows = grind (arith, common_steps);
  items = one_passed IsItemText (set.items c.args.items.now) c.loop-item.item-iterator c.next.new.self c.in-Some.item.now c.in-Some.ensures.steps c.in_ok-of_item.ensures.item c.loop-item.invariant.items;
}

pub returns-clause-items : goal.returns-clause-items
returns-clause-items c =
    let all = set.items c.args.items.now in
    all_of_members IsItemText all (all_passed IsItemText all c.loop-item.item-iterator c.in-None.ensures.steps.0 c.loop-item.invariant.items)
