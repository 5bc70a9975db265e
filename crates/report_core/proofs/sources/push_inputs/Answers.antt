use Rattle.std.proofs.Common.{arith}
use Rattle.std.specs.List.{Contains}
use Rattle.std.proofs.lemmas.List.{get_or_default}
use Rattle.trace_core.specs.Chains.{sites_at}
use Rattle.report_core.specs.Sources.{GoesIntoAt, GoesIntoSeen}
use Rattle.report_core.proofs.UnseenAdded.{more_unseen, all_unseen, starts_unseen}
use Rattle.report_core.proofs.sources.push_inputs.Goals as goal

pub loop-place-init : goal.loop-place-init
loop-place-init c = starts_unseen (GoesIntoSeen (sites_at c.args.sites.now)) (GoesIntoAt (sites_at c.args.sites.now) c.args.at) c.args.places.now c.args.seen.now (Contains c.args.found.now.items)

pub loop-place-preserved : goal.loop-place-preserved
loop-place-preserved c =
    let sites = sites_at c.args.sites.now in
    more_unseen (GoesIntoSeen sites) (GoesIntoAt sites c.args.at) c.args.places.now c.loop-place.place-index _ c.loop-place-test.true
    (get_or_default c.args.places.now c.loop-place.place-index _ _ (omega (arith, c.loop-place-test.true))) c.args.seen.now c.loop-place.seen c.push_inputs_of.new.seen
    (Contains c.args.found.now.items) (Contains c.loop-place.found.items) (Contains c.push_inputs_of.new.found.items) c.loop-place.invariant c.in_ok-push_inputs_of.ensures

pub returns : goal.returns
returns c =
    let sites = sites_at c.args.sites.now in
    all_unseen (GoesIntoSeen sites) (GoesIntoAt sites c.args.at) c.args.places.now c.loop-place.place-index c.args.seen.now c.loop-place.seen (Contains c.args.found.now.items) (Contains c.loop-place.found.items)
    c.loop-place-test.false c.loop-place.invariant
