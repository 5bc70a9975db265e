use Rattle.std.proofs.Common.{List, get_or, sym, ap, subst, ◌∙◌, arith}
use Rattle.trace_core.specs.declared.steps.Step.{Step}
use Rattle.trace_core.specs.Searches.{AreUnseen}
use Rattle.trace_core.proofs.TrailSteps.{steps_begin, unseen_noted, all_followed}
use Rattle.trace_core.proofs.trails.steps_from.Goals as goal

pub loop-place-init : goal.loop-place-init
loop-place-init g c = record {
  follows = steps_begin (g.R.Adjacency.relates c.args.relation.now) c.args.root.now c.new-steps.result c.note.new.self _ c.new-steps.ensures c.in_ok-note.ensures c.in_ok-copy.ensures;
  given = λ q h. absurd (c.none_seen-seen.ensures q h);
}

pub loop-place-preserved : goal.loop-place-preserved
loop-place-preserved g c =
    let related = g.R.Adjacency.relates c.args.relation.now in
    let gives = g.R.Adjacency.gives c.args.relation.now in
    unseen_noted related c.args.root.now gives c.loop-place.seen _ c.loop-place.steps _ c.loop-place.place c.index-as_slice-place.result _ c.loop-place.invariant
    (omega (arith, c.len.ensures, c.loop-place-test.true), sym (c.index-as_slice-place.is ∙ ap (λ (xs : List Step). get_or xs c.loop-place.place c.index-as_slice-place.result) c.as_slice.ensures))
    (subst (λ (x : Step). AreUnseen (related x.pair) gives c.loop-place.seen c.unseen_targets.new.seen c.in_ok-targets.targets.items) (sym c.index-as_slice-place.is) c.in_ok-targets.ensures)
    c.in_ok-note_all.ensures

pub returns : goal.returns
returns g c = all_followed (g.R.Adjacency.relates c.args.relation.now) c.args.root.now c.loop-place.steps c.loop-place.place (omega (arith, c.len.ensures, c.loop-place-test.false)) c.loop-place.invariant.follows
