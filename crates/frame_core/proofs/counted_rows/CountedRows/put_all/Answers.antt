use Rattle.std.proofs.Common.{◌≡◌, ◌∷◌, [], ◌+◌, IsSome, length, drop, refl, sym, ap, subst, ◌∙◌, arith}
use Rattle.std.specs.Cmp.{nat_cmp_total}
use Rattle.std.specs.FinMap.{get, insert, nat_cmp-IsAntisymmetric}
use Rattle.std.proofs.lemmas.List.{length-append}
use Rattle.frame_core.specs.Counts.{CanUndo, undone}
use Rattle.frame_core.specs.Outboxes.{numbered, row_for}
use Rattle.frame_core.proofs.Lookups.{get_here, get_apart}
use Rattle.frame_core.proofs.Numbering.{numbered_next}
use Rattle.frame_core.proofs.Undoing.{undone_put, can_still, can_push}
use Rattle.frame_core.proofs.counted_rows.CountedRows.put_all.Goals as goal

pub undo_all-requires-clause-can : goal.undo_all-requires-clause-can
undo_all-requires-clause-can c =
    can_still c.loop-dest.self c.put_copy.new.self c.args.first c.loop-dest.replaced.items
    (record { rows = λ q lt. ap (λ m. get m q) c.in-Err.ensures.err; counts = c.put_copy.ensures.counts }) c.loop-dest.invariant.can

pub loop-dest-preserved : goal.loop-dest-preserved
loop-dest-preserved c =
    let items = c.loop-dest.replaced.items in
    let count : c.len.result ≡ length items = c.len.ensures ∙ c.loop-dest.replaced.ok.0 in
    let pair = c.loop-dest-item.result in
    let row = row_for c.args.recall (pair.0, pair.1) in
    let rows : c.put_copy.new.self.rows ≡ insert c.loop-dest.self.rows (c.args.first + length items) row = c.in-Ok.ensures.ok ∙ ap (λ n. insert c.loop-dest.self.rows (c.args.first + n) row) count in
    let was : c.in-Ok.before ≡ get c.loop-dest.self.rows (c.args.first + length items) = c.in-Ok.ensures.old ∙ ap (λ n. get c.loop-dest.self.rows (c.args.first + n)) count in
    record {
      rows = ap (λ m. numbered m (c.args.first + (c.loop-dest.dest-index + 1)) c.args.recall (drop (c.loop-dest.dest-index + 1) c.args.out.now)) (rows ∙ ap (λ n. insert c.loop-dest.self.rows (c.args.first + n) row) c.loop-dest.invariant.count)
          ∙ numbered_next c.loop-dest.self.rows c.args.first c.loop-dest.dest-index c.args.recall c.args.out.now pair (omega (arith, c.loop-dest-test.true, c.loop-dest.auto.dest-index-end)) c.loop-dest-item.is
          ∙ c.loop-dest.invariant.rows;
      undone = ap (λ m. undone m c.args.first c.push_reserved.new.self.items) rows ∙ ap (undone (insert c.loop-dest.self.rows (c.args.first + length items) row) c.args.first) c.push_reserved.ensures.items
          ∙ undone_put c.loop-dest.self.rows c.args.first items row c.in-Ok.before was ∙ c.loop-dest.invariant.undone;
      can = subst (CanUndo c.put_copy.new.self c.args.first) (sym c.push_reserved.ensures.items)
          (can_push c.put_copy.new.self c.args.first items c.in-Ok.before
          (can_still c.loop-dest.self c.put_copy.new.self c.args.first items
          (record { rows = λ q lt. ap (λ m. get m q) rows ∙ get_apart nat_cmp_total nat_cmp-IsAntisymmetric c.loop-dest.self.rows (c.args.first + length items) row q (λ same. omega (arith, lt)); counts = c.put_copy.ensures.counts })
          c.loop-dest.invariant.can)
          (subst IsSome (sym (ap (λ m. get m (c.args.first + length items)) rows ∙ get_here nat_cmp_total nat_cmp-IsAntisymmetric c.loop-dest.self.rows (c.args.first + length items) row)) refl)
          c.in-Ok.ensures.written_over);
      count = ap length c.push_reserved.ensures.items ∙ length-append items (c.in-Ok.before ∷ []) ∙ omega (arith, c.loop-dest.invariant.count);
      room = omega (arith, c.loop-dest.invariant.room, c.push_reserved.ensures.capacity);
    }
