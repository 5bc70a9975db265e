use Rattle.report_core.proofs.LiesInItems.{all_filled}
use Rattle.report_core.proofs.containers.ContainersAdjacency.unseen_targets.Goals as goal

pub returns : goal.returns
returns c =
    all_filled c.args.self.now.site.now.events c.args.self.now.number c.args.self.now.packings.now c.args.pair.now c.new-found.result.items c.push_filled.new.found.items c.places_under-places.result.now
    c.args._seen.now c.args._seen.now c.new-found.ensures.items c.places_under-places.ensures c.in_ok-push_filled.ensures
