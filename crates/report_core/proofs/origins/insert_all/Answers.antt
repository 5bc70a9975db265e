use Rattle.std.proofs.Common.{rules, ◌∷◌, [], ◌++◌, sym, ap, ◌∙◌, append_assoc}
use Rattle.std.specs.List.{Contains}
use Rattle.std.specs.Vec.Iter.{into_iter_items}
use Rattle.trace_core.specs.Pairs.{pair_cmp}
use Rattle.trace_core.specs.Searches.{IsFound}
use Rattle.trace_core.proofs.Members.{contains_none}
use Rattle.report_core.proofs.Additions.{adds_nothing}
use Rattle.report_core.proofs.OriginsFound.{pair_inserted}
use Rattle.report_core.proofs.origins.insert_all.Goals as goal

pub loop-pair-init : goal.loop-pair-init
loop-pair-init c = record {
  added = adds_nothing (IsFound pair_cmp c.args.found.now) (Contains []) contains_none;
  parts = search rules;
}

pub loop-pair-preserved : goal.loop-pair-preserved
loop-pair-preserved c = record {
  added = pair_inserted c.args.found.now c.loop-pair.found c.insert.new.self c.loop-pair.yielded c.in-Some.pair c.loop-pair.invariant.added c.in_ok-insert.ensures.updates;
  parts = c.loop-pair.invariant.parts ∙ ap (λ xs. c.loop-pair.yielded ++ xs) c.in-Some.ensures.steps.0 ∙ sym (append_assoc c.loop-pair.yielded (c.in-Some.pair ∷ []) (into_iter_items c.next.new.self));
}
