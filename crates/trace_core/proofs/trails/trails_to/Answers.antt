use Rattle.std.proofs.Common.{◌≡◌, List, All, map, sym, ap, subst, ◌∙◌}
use Rattle.std.specs.List.{AllZip}
use Rattle.std.specs.Option.{option_map}
use Rattle.trace_core.specs.declared.steps.Step.{Step}
use Rattle.trace_core.specs.Chains.{Related, sites_at}
use Rattle.trace_core.specs.Trails.{IsEnd, TellsTrail, trail_at}
use Rattle.trace_core.proofs.TrailTrees.{ends_told, ends_within}
use Rattle.trace_core.proofs.trails.trails_to.Goals as goal

pub of-requires-clause-ends : goal.of-requires-clause-ends
of-requires-clause-ends c =
    subst (λ (steps : List Step). All (IsEnd steps) c.in_ok-ends.ends.items) (sym c.into_list.ensures)
    (ends_within c.in_ok-steps.steps c.args.pairs.now c.in_ok-ends.ends.items c.in_ok-ends.ensures)

pub returns : goal.returns
returns c =
    let steps = c.in_ok-steps.steps in
    let ends = c.in_ok-ends.ends.items in
    let are : c.of.result ≡ map (option_map (trail_at steps)) ends = c.of.ensures ∙ ap (λ (xs : List Step). map (option_map (trail_at xs)) ends) c.into_list.ensures in
    subst (AllZip (TellsTrail (sites_at c.args.sites.now) c.args.root.now) c.args.pairs.now) (sym are)
    (ends_told (Related (sites_at c.args.sites.now)) c.args.root.now steps c.in_ok-steps.ensures c.args.pairs.now ends c.in_ok-ends.ensures)
