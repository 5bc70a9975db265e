use Rattle.site_core.proofs.Held.{released_last}
use Rattle.site_core.proofs.quarantines.Quarantine.release_items.Goals as goal

pub loop-item-preserved-in-Some : goal.loop-item-preserved-in-Some
loop-item-preserved-in-Some c =
    released_last c.loop-item.self c.release.new.self _ c.args.recall c.loop-item.items.items c.pop.new.self.items c.in-Some.item c.release.ensures c.in-Some.ensures.items c.loop-item.invariant

pub loop-item-preserved-in-Some-2 : goal.loop-item-preserved-in-Some-2
loop-item-preserved-in-Some-2 c =
    released_last c.loop-item.self c.release.new.self _ c.args.recall c.loop-item.items.items c.pop.new.self.items c.in-Some.item c.release.ensures c.in-Some.ensures.items c.loop-item.invariant

pub loop-item-preserved : goal.loop-item-preserved
loop-item-preserved c =
    released_last c.loop-item.self c.release.new.self _ c.args.recall c.loop-item.items.items c.pop.new.self.items c.in-Some.item c.release.ensures c.in-Some.ensures.items c.loop-item.invariant
