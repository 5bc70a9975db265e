use Rattle.std.proofs.Common.{◌≡◌, ◌++◌, ◌∷◌, [], ◌+◌, ◌<◌, ◌^◌, IsSome, length, sym, ap, subst, ◌∙◌, arith}
use Rattle.std.specs.FinMap.{get}
use Rattle.std.proofs.lemmas.List.{length-append}
use Rattle.frame_core.specs.Counts.{CanUndo, undone}
use Rattle.frame_core.specs.Tables.{set_back}
use Rattle.frame_core.proofs.Undoing.{undone_last, can_still, can_front, last_stands, last_counted, set_back_apart}
use Rattle.frame_core.proofs.counted_rows.CountedRows.undo_all.Goals as goal

-- how many are left to be undone
left : (c : goal.After-len) → c.len.result ≡ length c.pop.new.self.items
left c = c.len.ensures ∙ c.pop.new.self.ok.0

one_fewer : (c : goal.After-len) → c.args.first + length c.pop.new.self.items + 1 < 2 ^ 64
one_fewer c = omega (arith, c.loop-before.invariant.in_range, ap length c.in-Some.ensures.items ∙ length-append c.pop.new.self.items (c.in-Some.before ∷ []))

pub overflow_add-first : goal.overflow_add-first
overflow_add-first c = omega (arith, one_fewer c, left c)

can_be : (c : goal.After-len) → CanUndo c.loop-before.self c.args.first (c.pop.new.self.items ++ c.in-Some.before ∷ [])
can_be c = subst (CanUndo c.loop-before.self c.args.first) c.in-Some.ensures.items c.loop-before.invariant.can

pub undo-requires-clause-stands : goal.undo-requires-clause-stands
undo-requires-clause-stands c =
    subst (λ n. IsSome (get c.loop-before.self.rows (c.args.first + n))) (sym (left c))
    (last_stands c.loop-before.self c.args.first c.pop.new.self.items c.in-Some.before (can_be c))

pub undo-requires-clause-counted : goal.undo-requires-clause-counted
undo-requires-clause-counted c = last_counted c.loop-before.self c.args.first c.pop.new.self.items c.in-Some.before (can_be c)

pub loop-before-preserved : goal.loop-before-preserved
loop-before-preserved c =
    let items = c.pop.new.self.items in
    let count : c.len.result ≡ length items = c.len.ensures ∙ c.pop.new.self.ok.0 in
    let can = subst (CanUndo c.loop-before.self c.args.first) c.in-Some.ensures.items c.loop-before.invariant.can in
    let rows = c.undo.ensures.rows ∙ ap (λ n. set_back c.loop-before.self.rows (c.args.first + n) c.in-Some.before) count in
    record {
      undone = ap (λ m. undone m c.args.first items) rows ∙ sym (undone_last c.loop-before.self.rows c.args.first items c.in-Some.before)
          ∙ ap (undone c.loop-before.self.rows c.args.first) (sym c.in-Some.ensures.items) ∙ c.loop-before.invariant.undone;
      can = can_still c.loop-before.self c.undo.new.self c.args.first items
          (record { rows = λ q lt. ap (λ m. get m q) rows ∙ set_back_apart c.loop-before.self.rows (c.args.first + length items) c.in-Some.before q (λ same. omega (arith, lt)); counts = c.undo.ensures.counts })
          (can_front c.loop-before.self c.args.first items c.in-Some.before can);
      in_range = omega (arith, c.loop-before.invariant.in_range, ap length c.in-Some.ensures.items ∙ length-append items (c.in-Some.before ∷ []));
    }
