use Rattle.std.proofs.Common.{◌≡◌, ◌++◌, ◌∷◌, [], ap, sym, subst, ◌∙◌, append_assoc}
use Rattle.std.specs.List.Sorted.{IsStrictlySortedBy}
use Rattle.frame_core.specs.Identifiers.{recall_cmp}
use Rattle.frame_core.specs.Orders.{recall_total}
use Rattle.site_core.proofs.HeldIndex.{insert_last}
use Rattle.site_core.proofs.held_index.copy_recalls.Goals as goal

pub loop-recall-preserved : goal.loop-recall-preserved
loop-recall-preserved c =
    let ks = c.loop-recall.copies.keys in
    let rest = c.next.new.self in
    let k = c.in-Some.recall.now in
    let next : ks ++ k ∷ rest ≡ c.args.recalls.now.keys = ap (λ xs. ks ++ xs) (sym c.in-Some.ensures.steps) ∙ c.loop-recall.invariant in
    let up : IsStrictlySortedBy recall_cmp (ks ++ k ∷ rest) = subst (IsStrictlySortedBy recall_cmp) (sym next) c.into_iter-recall-iterator.ensures.into_iter_gives.4 in
    ap (λ xs. xs ++ rest) (c.in_ok-insert.ensures.keys ∙ insert_last recall_cmp recall_total ks rest k up) ∙ append_assoc ks (k ∷ []) rest ∙ next
