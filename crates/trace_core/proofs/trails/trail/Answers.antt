use Rattle.std.proofs.Common.{◌≡◌, List, None, Some, sym, ap, subst, ◌∙◌}
use Rattle.trace_core.specs.declared.pairs.Pair.{Pair}
use Rattle.trace_core.specs.declared.steps.Step.{Step}
use Rattle.trace_core.specs.Chains.{Related, sites_at}
use Rattle.trace_core.specs.Trails.{TellsTrailBy, trail_at}
use Rattle.trace_core.proofs.TrailTrees.{end_told}
use Rattle.trace_core.proofs.trails.trail.Goals as goal

pub returns-in-Some : goal.returns-in-Some
returns-in-Some c =
    let related = Related (sites_at c.args.sites.now) in
    let steps = c.in_ok-steps.steps in
    let place = c.in-Some.place in
    let is : c.from_vec.result ≡ trail_at steps place = c.from_vec.ensures ∙ c.in_ok-pairs-in-Some.ensures ∙ ap (λ (xs : List Step). trail_at xs place) c.as_slice.ensures in
    subst (λ (ps : List Pair). TellsTrailBy related c.args.root.now c.args.target.now (Some ps)) (sym is)
    (end_told related c.args.root.now steps c.in_ok-steps.ensures c.args.target.now (Some place) c.in-Some.ensures)

pub returns : goal.returns
returns c = end_told (Related (sites_at c.args.sites.now)) c.args.root.now c.in_ok-steps.steps c.in_ok-steps.ensures c.args.target.now None c.in-None.ensures
