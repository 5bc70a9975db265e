use Rattle.site_core.proofs.SourcesFound.{all_left, input_tried, none_left}
use Rattle.site_core.proofs.sources.add_inputs_held.Goals as goal

pub loop-item-init : goal.loop-item-init
loop-item-init c = all_left c.args.captured.now.events c.args.quarantine.now c.args.id.now c.args.found.now c.by_item-item-items.result.now c.into_iter-item-iterator.result c.into_iter-item-iterator.ensures.into_iter_gives.0 c.by_item-item-items.ensures

pub loop-item-preserved : goal.loop-item-preserved
loop-item-preserved c =
    input_tried c.args.captured.now.events c.args.quarantine.now c.args.id.now c.args.found.now c.loop-item.item-iterator c.next.new.self (c.in-Some.item.now, c.in-Some._recalls.now) c.in-Some.ensures.steps
    c.loop-item.found c.add_if_input.new.found c.in_ok-add_if_input.ensures c.loop-item.invariant

pub returns : goal.returns
returns c = none_left c.args.captured.now.events c.args.quarantine.now c.args.id.now c.args.found.now c.loop-item.item-iterator c.loop-item.found c.in-None.ensures.steps.0 c.loop-item.invariant
