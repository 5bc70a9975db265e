use Rattle.std.specs.List.{Contains}
use Rattle.trace_core.specs.Chains.{sites_at}
use Rattle.trace_core.proofs.Gathered.{gathering_begins, gathering_ends, gathering_goes_on}
use Rattle.gap_core.specs.Untold.{IsUntoldBy}
use Rattle.gap_core.proofs.untold.note_places.Goals as goal

pub loop-text-init : goal.loop-text-init
loop-text-init c =
    gathering_begins (IsUntoldBy (sites_at c.args.sites.now) c.args.own.now c.args.known.now c.args.reached.now c.args.at) c.args.outside.now.entries (Contains c.args.found.now.items) c.into_iter-text-iterator.result (Contains c.args.found.now.items)
    c.into_iter-text-iterator.ensures.into_iter_gives.0 (λ x. (λ h. h, λ h. h))

pub loop-text-preserved : goal.loop-text-preserved
loop-text-preserved c =
    gathering_goes_on (IsUntoldBy (sites_at c.args.sites.now) c.args.own.now c.args.known.now c.args.reached.now c.args.at) c.args.outside.now.entries (Contains c.args.found.now.items) c.loop-text.text-iterator c.next.new.self
    (c.in-Some.text.now, c.in-Some.places.now) (Contains c.loop-text.found.items) (Contains c.note_place.new.found.items)
    c.in-Some.ensures.steps c.in_ok-note_place.ensures c.loop-text.invariant

pub returns-clause-ordered : goal.returns-clause-ordered
returns-clause-ordered c = c.into_iter-text-iterator.ensures.into_iter_gives.5

pub returns-clause-added : goal.returns-clause-added
returns-clause-added c =
    gathering_ends (IsUntoldBy (sites_at c.args.sites.now) c.args.own.now c.args.known.now c.args.reached.now c.args.at) c.args.outside.now.entries (Contains c.args.found.now.items) c.loop-text.text-iterator (Contains c.loop-text.found.items)
    c.in-None.ensures.steps.0 c.loop-text.invariant
