use Rattle.std.proofs.Common.{List, get_or, ap, ◌∙◌, arith}
use Rattle.trace_core.specs.declared.nodes.Node.{Node}
use Rattle.trace_core.proofs.NodeSteps.{search_begins, search_goes_on, search_ends, counts_begin, counts_go_on, looks_at_all}
use Rattle.trace_core.proofs.searches.closure.Goals as goal

pub loop-place-init : goal.loop-place-init
loop-place-init g c = record {
  searches = search_begins (g.R.Relation.stands c.args.relation.now) (g.R.Relation.relates c.args.relation.now) (g.R.Relation.gives c.args.relation.now) (g.R.Relation.has_seen c.args.relation.now) c.args.starts.now c.none_seen-seen.result c.new-nodes.result c.note_all.new.self
      c.new-nodes.ensures c.none_seen-seen.ensures.none c.requires c.in_ok-note_all.ensures;
  counts = counts_begin (g.R.Relation.bounds_looks c.args.relation.now) (g.R.Relation.outputs c.args.relation.now) c.args.looks.now _ c.none_seen-seen.ensures.outputs;
}

pub loop-place-preserved : goal.loop-place-preserved
loop-place-preserved g c = record {
  searches = search_goes_on (g.R.Relation.stands c.args.relation.now) (g.R.Relation.relates c.args.relation.now) (g.R.Relation.gives c.args.relation.now) (g.R.Relation.has_seen c.args.relation.now) c.args.starts.now c.loop-place.seen c.visit.new.seen c.loop-place.nodes c.visit.new.nodes c.loop-place.place
      c.index-as_slice-place.result (omega (arith, c.len.ensures, c.loop-place-test.true)) (c.index-as_slice-place.is ∙ ap (λ (ns : List Node). get_or ns c.loop-place.place c.index-as_slice-place.result) c.as_slice.ensures) c.loop-place.invariant.searches c.in_ok-visit.ensures.visited c.in_ok-visit.ensures.seen c.in_ok-visit.ensures.stays;
  counts = counts_go_on (g.R.Relation.bounds_looks c.args.relation.now) (g.R.Relation.outputs c.args.relation.now) c.args.looks.now _ _ c.loop-place.looks _ c.loop-place.place c.loop-place.invariant.counts
      c.in_ok-visit.ensures.least c.in_ok-visit.ensures.most c.in_ok-visit.ensures.all;
}

pub returns-clause-reached : goal.returns-clause-reached
returns-clause-reached g c q = search_ends (g.R.Relation.stands c.args.relation.now) (g.R.Relation.relates c.args.relation.now) (g.R.Relation.gives c.args.relation.now) (g.R.Relation.has_seen c.args.relation.now) c.args.starts.now c.loop-place.seen c.loop-place.nodes c.loop-place.place
    (omega (arith, c.len.ensures, c.loop-place-test.false)) c.loop-place.invariant.searches q

pub returns-clause-most : goal.returns-clause-most
returns-clause-most g c bounded = omega (arith, c.loop-place.invariant.counts.most bounded, c.loop-place.invariant.searches.within)

pub returns-clause-all : goal.returns-clause-all
returns-clause-all g c = looks_at_all (g.R.Relation.stands c.args.relation.now) (g.R.Relation.relates c.args.relation.now) (g.R.Relation.gives c.args.relation.now) (g.R.Relation.has_seen c.args.relation.now) c.args.starts.now
    (g.R.Relation.bounds_looks c.args.relation.now) (g.R.Relation.outputs c.args.relation.now) (g.R.Relation.unseen c.args.relation.now) c.loop-place.seen c.loop-place.nodes c.args.looks.now c.loop-place.looks c.loop-place.place
    (omega (arith, c.len.ensures, c.loop-place-test.false)) c.loop-place.invariant.searches c.loop-place.invariant.counts
