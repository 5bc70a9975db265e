use Rattle.std.proofs.Common.{ℕ, List, map, ◌∷◌, [], ◌++◌, sym, ap, subst, ◌∙◌, append_assoc, append-nil, arith}
use Rattle.std.specs.Borrow.{Bor}
use Rattle.std.proofs.lemmas.List.{map-append}
use Rattle.trace_core.proofs.MarkSteps.{AreMarked, no_marks, one_written}
use Rattle.trace_core.proofs.marks.marks_of_set.Goals as goal

pub loop-number-init : goal.loop-number-init
loop-number-init c = record {
  marked = no_marks c.in_ok-marks.marks.items c.args.len (c.in_ok-marks.ensures.items_if_clones_equal (λ y e. e));
  parts = sym c.into_iter-number-iterator.ensures.into_iter_gives.0;
}

pub loop-number-preserved : goal.loop-number-preserved
loop-number-preserved c =
    let so_far = map (λ (r : Bor ℕ). r.now) c.loop-number.yielded in
    let more = map-append (λ (r : Bor ℕ). r.now) c.loop-number.yielded (c.in-Some.number ∷ []) in
    record {
      marked = subst (AreMarked _ c.args.len) (sym more)
          (one_written c.loop-number.marks.items c.deref_mut.result.now c.set_mark.new.marks c.loop-number.marks.len c.args.len c.in-Some.number.now so_far c.deref_mut.ensures.value (omega (arith, c.loop-number.marks.ok)) c.set_mark.ensures.count c.set_mark.ensures.set c.loop-number.invariant.marked);
      parts = c.loop-number.invariant.parts ∙ ap (λ (ns : List ℕ). so_far ++ ns) c.in-Some.ensures.steps ∙ sym (append_assoc so_far (c.in-Some.number.now ∷ []) _) ∙ ap (λ (ns : List ℕ). ns ++ c.next.new.self) (sym more);
    }

pub returns-clause-len : goal.returns-clause-len
returns-clause-len c = c.loop-number.invariant.marked.count

pub returns-clause-set : goal.returns-clause-set
returns-clause-set c =
    let so_far = map (λ (r : Bor ℕ). r.now) c.loop-number.yielded in
    let all = c.loop-number.invariant.parts ∙ ap (λ (ns : List ℕ). so_far ++ ns) c.in-None.ensures.steps.0 ∙ append-nil so_far in
    (subst (AreMarked c.loop-number.marks.items c.args.len) (sym all) c.loop-number.invariant.marked).each
