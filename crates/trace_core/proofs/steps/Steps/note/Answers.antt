use Rattle.std.proofs.Common.{List, [], ◌∷◌, ◌++◌, length, refl, sym, ap, subst, ◌∙◌, arith}
use mathlib.Core.Bool.{false≢true}
use Rattle.std.specs.List.{Contains}
use Rattle.trace_core.specs.declared.steps.Step.{Step}
use Rattle.trace_core.specs.Trails.{pairs_of}
use Rattle.trace_core.proofs.TrailSteps.{known_step, new_step, place_pushed, has_place, lacks_place}
use Rattle.trace_core.proofs.steps.Steps.note.Goals as goal

pub returns-then-contains_key : goal.returns-then-contains_key
returns-then-contains_key c = known_step c.args.self.now c.args.self.now c.args.from c.args.target refl
    (subst (λ (xs : List Step). Contains (pairs_of xs) c.args.target) c.self.view_is
    (has_place c.self.inside.list.items c.args.target _ (c.self.invariant c.args.target) (sym c.contains_key.ensures ∙ c.if-contains_key.true)))

pub invariant_of-self-2 : goal.invariant_of-self-2
invariant_of-self-2 c = place_pushed c.self.inside.places c.insert.new.self c.self.inside.list.items c.push_reserved.new.self.items c.args.from c.len.result c.in_ok-pair.pair c.args.target c.self.invariant c.in_ok-insert.ensures.updates
    (omega (arith, ap length c.in_ok-reserve.ensures.items))
    (c.push_reserved.ensures.items ∙ ap (λ (xs : List Step). xs ++ (record { pair = c.in_ok-pair.pair; from = c.args.from }) ∷ []) c.in_ok-reserve.ensures.items) c.in_ok-pair.ensures

pub returns : goal.returns
returns c = new_step c.args.self.now c.push_reserved.new.self.items c.args.from c.in_ok-pair.pair c.args.target
    (c.push_reserved.ensures.items ∙ ap (λ (xs : List Step). xs ++ (record { pair = c.in_ok-pair.pair; from = c.args.from }) ∷ []) (c.in_ok-reserve.ensures.items ∙ c.self.view_is)) c.in_ok-pair.ensures
    (λ there. lacks_place c.self.inside.list.items c.args.target _ (c.self.invariant c.args.target) (λ some. false≢true (sym c.if-contains_key.false ∙ c.contains_key.ensures ∙ some))
    (subst (λ (xs : List Step). Contains (pairs_of xs) c.args.target) (sym c.self.view_is) there))
