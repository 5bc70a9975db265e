use Rattle.trace_core.specs.Chains.{Related, sites_at}
use Rattle.trace_core.specs.Groups.{IsGivenBy}
use Rattle.trace_core.specs.Pairs.{pair_cmp}
use Rattle.trace_core.specs.Searches.{IsFound}
use Rattle.report_core.specs.Sources.{ByOne}
use Rattle.report_core.proofs.OriginsFound.{targets_inserted, targets_found}
use Rattle.report_core.proofs.UnseenAdded.{starts_unseen, more_unseen, all_unseen}
use Rattle.report_core.proofs.origins.targets_of.Goals as goal

pub loop-pair-init : goal.loop-pair-init
loop-pair-init c = starts_unseen (IsGivenBy (sites_at c.args.sites.now)) (Related (sites_at c.args.sites.now)) c.args.pairs.now c.new-seen.result (IsFound pair_cmp c.new-found.result)

pub loop-pair-preserved : goal.loop-pair-preserved
loop-pair-preserved c =
    let sites = sites_at c.args.sites.now in
    more_unseen (IsGivenBy sites) (Related sites) c.args.pairs.now c.loop-pair.pair-index c.pair-item.result c.loop-pair-test.true c.pair-item.is c.new-seen.result c.loop-pair.seen c.unseen_targets.new.seen
    (IsFound pair_cmp c.new-found.result) (IsFound pair_cmp c.loop-pair.found) (IsFound pair_cmp c.insert_all.new.found) c.loop-pair.invariant
    (targets_inserted (IsGivenBy sites) (Related sites c.pair-item.result) c.loop-pair.seen c.unseen_targets.new.seen c.in_ok-targets.targets.items (IsFound pair_cmp c.loop-pair.found) (IsFound pair_cmp c.insert_all.new.found)
    c.in_ok-targets.ensures.unseen c.in_ok-insert_all.ensures)

pub returns : goal.returns
returns c =
    let sites = sites_at c.args.sites.now in
    targets_found sites (ByOne c.args.pairs.now (Related sites)) c.new-seen.result c.loop-pair.seen c.new-found.result c.loop-pair.found c.new-seen.ensures c.new-found.ensures.empty
    (all_unseen (IsGivenBy sites) (Related sites) c.args.pairs.now c.loop-pair.pair-index c.new-seen.result c.loop-pair.seen (IsFound pair_cmp c.new-found.result) (IsFound pair_cmp c.loop-pair.found) c.loop-pair-test.false c.loop-pair.invariant)
