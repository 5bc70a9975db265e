use Rattle.std.proofs.Common.{arith}
use Rattle.site_core.proofs.SourcesFound.{found_more}
use Rattle.site_core.proofs.sources.add_all.Goals as goal

pub loop-item-preserved : goal.loop-item-preserved
loop-item-preserved c = found_more c.args.found.now c.loop-item.found c.insert.new.self c.args.items.now c.loop-item.item-index c.item-item.result c.in_ok-copy.field-0 (omega arith) c.item-item.is c.in_ok-copy.ensures c.in_ok-insert.ensures.updates c.loop-item.invariant
