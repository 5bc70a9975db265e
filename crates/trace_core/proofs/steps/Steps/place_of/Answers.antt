use Rattle.std.proofs.Common.{List, sym, subst, ◌∙◌}
use Rattle.std.specs.BTreeMap.{get}
use Rattle.trace_core.specs.declared.steps.Step.{Step}
use Rattle.trace_core.specs.Pairs.{pair_cmp}
use Rattle.trace_core.specs.Trails.{IsPlaceOf}
use Rattle.trace_core.proofs.steps.Steps.place_of.Goals as goal

pub returns : goal.returns
returns c = subst (IsPlaceOf c.args.self.now c.args.pair.now) (sym (c.copied.ensures ∙ c.get.ensures.value))
    (subst (λ (xs : List Step). IsPlaceOf xs c.args.pair.now (get pair_cmp c.self.inside.places c.args.pair.now)) c.self.view_is (c.self.invariant c.args.pair.now))
