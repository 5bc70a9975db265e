use Rattle.std.proofs.Common.{◌↔◌, ◌<◌, subst, Contains}
use Rattle.std.proofs.lemmas.List.{take_all}
use Rattle.report_core.specs.Gathering.{IsAmong}
use Rattle.report_core.proofs.ItemsOfSites.{no_pairs, one_more_pair}
use Rattle.report_core.proofs.item_places.items_by_site.Goals as goal

pub loop-pair-init : goal.loop-pair-init
loop-pair-init c = no_pairs c.in_ok-sets.sets.items c.args.count c.in_ok-sets.ensures

pub loop-pair-preserved : goal.loop-pair-preserved
loop-pair-preserved c =
    one_more_pair c.loop-pair.sets.items c.add_item.new.sets.items c.args.count c.args.pairs.now c.loop-pair.pair-index c.pair-item.result c.loop-pair-test.true c.pair-item.is
    c.in_ok-add_item.ensures.count c.in_ok-add_item.ensures.exact c.loop-pair.invariant

pub returns-clause-exact : goal.returns-clause-exact
returns-clause-exact c p =
    let pairs = c.args.pairs.now in
    subst (λ ps. IsAmong c.loop-pair.sets.items p ↔ ((p.site < c.args.count) × Contains ps p)) (take_all c.loop-pair.pair-index pairs c.loop-pair-test.false) (c.loop-pair.invariant.exact p)
