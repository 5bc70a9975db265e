-- What a signal leaves whose row stands, and what it returns.
use Rattle.std.proofs.Common.{◌≡◌, ◌⊎◌, inl, inr, ℕ, Bool, true, false, Option, Some, None, refl, sym, ap, subst, ◌∙◌}
use Rattle.std.specs.Ordering.{nat_cmp}
use Rattle.std.specs.Cmp.{nat_cmp_total}
use Rattle.std.specs.FinMap.{FinMap, nat_cmp-IsAntisymmetric, get, insert, remove}
use Rattle.frame_core.specs.Numbers.{Recall, Message}
use Rattle.frame_core.specs.declared.rows.Row.{Row}
use Rattle.frame_core.specs.Identifiers.{recall_cmp}
use Rattle.frame_core.specs.Outboxes.{has_rows}
use Rattle.frame_core.specs.Laws.{HasNoRows}
use Rattle.frame_core.proofs.Deficits.{rows_are_found, no_row}
use Rattle.frame_core.proofs.Lookups.{one_key, get_here, get_apart, get_gone, get_left}
use Rattle.frame_core.specs.Orders.{recall_total, recall_exact}
use Rattle.scholten_core.specs.declared.own_recalls.Own.{Own}
use Rattle.scholten_core.specs.declared.outcomes.Signalled.TheVariants.{Stale}
use Rattle.scholten_core.specs.OwnRecalls.{with_end}
use Rattle.scholten_core.specs.Engagement.{Engagement, live_own}
use Rattle.scholten_core.specs.Changes.{settled, at_row, signalled}
use Rattle.scholten_core.specs.Effects.{IsOver, Clears}
use Rattle.scholten_core.specs.Replies.{TellsCleared}
use Rattle.scholten_core.proofs.Live.{live_is, live_known, not_live}

module _ (e : Engagement) (n : ℕ) (x : Row) (was : get e.outbox n ≡ Some x) where
  abbrev left : Engagement
  left = record e { outbox = remove e.outbox n }

  -- all but the parents and the own recalls, whatever they become
  left_clears : (parents : FinMap recall_cmp Message) (own : FinMap nat_cmp Own)
      → ((q : Recall) (p : Message) → get e.parents q ≡ Some p → (get parents q ≡ Some p) ⊎ ((q ≡ x.recall) × HasNoRows left.outbox x.recall))
      → ((q : Recall) (p : Message) → get parents q ≡ Some p → get e.parents q ≡ Some p)
      → (HasNoRows left.outbox x.recall → get parents x.recall ≡ None)
      → ((k : ℕ) (o : Own) → get e.own k ≡ Some o → (p : Own) × (get own k ≡ Some p) × (p.root ≡ o.root) × ((p.ended ≡ o.ended) ⊎ ((p.ended ≡ true) × IsOver e (record left { parents = parents; own = own }) x.recall k)))
      → ((k : ℕ) (p : Own) → get own k ≡ Some p → (o : Own) × (get e.own k ≡ Some o) × (p.root ≡ o.root) × ((p.ended ≡ o.ended) ⊎ ((p.ended ≡ true) × IsOver e (record left { parents = parents; own = own }) x.recall k)))
      → ((k : ℕ) (p : Own) → get own k ≡ Some p → IsOver e (record left { parents = parents; own = own }) x.recall k → p.ended ≡ true)
      → Clears e (record left { parents = parents; own = own }) n x
  left_clears parents own parent_kept parent_origin parent_gone own_kept own_origin own_ended = record {
    was = was;
    me = refl;
    next_message = refl;
    next_recall = refl;
    row_kept = λ k y ne is. get_left nat_cmp_total nat_cmp-IsAntisymmetric e.outbox n k ne ∙ is;
    row_origin = λ k y is. elim (one_key nat_cmp_total nat_cmp-IsAntisymmetric k n) [
      | inl same ↦ let twice : None ≡ Some y = sym (get_gone nat_cmp_total nat_cmp-IsAntisymmetric e.outbox n) ∙ ap (get (remove e.outbox n)) (sym same) ∙ is in cc
      | inr ne ↦ sym (get_left nat_cmp_total nat_cmp-IsAntisymmetric e.outbox n k ne) ∙ is
    ];
    row_gone = get_gone nat_cmp_total nat_cmp-IsAntisymmetric e.outbox n;
    seen = λ p. refl;
    parent_kept = parent_kept;
    parent_origin = parent_origin;
    parent_gone = parent_gone;
    own_kept = own_kept;
    own_origin = own_origin;
    own_ended = own_ended;
  }

  -- where rows are left, none is the last
  not_last : has_rows left.outbox x.recall ≡ true → HasNoRows left.outbox x.recall → ⊥
  not_last rows none = let one = rows_are_found left.outbox x.recall rows in none one.number one.row one.stands one.of_recall

  settled_clears : (rows : Bool) (parent : Option Message) (live : Option Own)
      → has_rows left.outbox x.recall ≡ rows → get e.parents x.recall ≡ parent → live_own e x.recall ≡ live
      → Clears e (settled left x.recall rows parent live).0 n x
  settled_clears true parent live rows up lives =
      left_clears e.parents e.own (λ q p is. inl is) (λ q p is. is) (λ none. absurd (not_last rows none))
      (λ k o is. (o, is, refl, inl refl)) (λ k o is. (o, is, refl, inl refl)) (λ k p is over. absurd (not_last rows over.none_left))
  settled_clears false (Some parent) live rows up lives =
      left_clears (remove e.parents x.recall) e.own
      (λ q p is. elim (one_key recall_total recall_exact q x.recall) [
        | inl same ↦ inr (same, no_row left.outbox x.recall rows)
        | inr ne ↦ inl (get_left recall_total recall_exact e.parents x.recall q ne ∙ is)
      ])
      (λ q p is. elim (one_key recall_total recall_exact q x.recall) [
        | inl same ↦ let twice : None ≡ Some p = sym (get_gone recall_total recall_exact e.parents x.recall) ∙ ap (get (remove e.parents x.recall)) (sym same) ∙ is in cc
        | inr ne ↦ sym (get_left recall_total recall_exact e.parents x.recall q ne) ∙ is
      ])
      (λ none. get_gone recall_total recall_exact e.parents x.recall)
      (λ k o is. (o, is, refl, inl refl)) (λ k o is. (o, is, refl, inl refl))
      (λ k p is over. let twice : None ≡ Some parent = sym over.neutral ∙ up in cc)
  settled_clears false None (Some own) rows up lives =
      let live = live_is e x.recall own lives in
      let same_own : get e.own x.recall.number ≡ Some own = live_known e x.recall own lives in
      let none = no_row left.outbox x.recall rows in
      let after = insert e.own x.recall.number (with_end own) in
      let over : IsOver e (record left { own = after }) x.recall x.recall.number = record { recall = (λ i. record { site = sym live.mine i; number = x.recall.number }); neutral = up; none_left = none } in
      left_clears e.parents after (λ q p is. inl is) (λ q p is. is) (λ _. up)
      (λ k o is. elim (one_key nat_cmp_total nat_cmp-IsAntisymmetric k x.recall.number) [
        | inl same ↦
            let one : Some own ≡ Some o = sym same_own ∙ ap (get e.own) (sym same) ∙ is in
            let root : own.root ≡ o.root = let eq : own ≡ o = cc in ap (λ (z : Own). z.root) eq in (
              with_end own,
              ap (get after) same ∙ get_here nat_cmp_total nat_cmp-IsAntisymmetric e.own x.recall.number (with_end own),
              root,
              inr (refl, subst (λ z. IsOver e (record left { own = after }) x.recall z) (sym same) over),
            )
        | inr ne ↦ (o, get_apart nat_cmp_total nat_cmp-IsAntisymmetric e.own x.recall.number (with_end own) k ne ∙ is, refl, inl refl)
      ])
      (λ k p is. elim (one_key nat_cmp_total nat_cmp-IsAntisymmetric k x.recall.number) [
        | inl same ↦
            let one : Some (with_end own) ≡ Some p = sym (get_here nat_cmp_total nat_cmp-IsAntisymmetric e.own x.recall.number (with_end own)) ∙ ap (get after) (sym same) ∙ is in
            let eq : p ≡ with_end own = cc in
            (own, ap (get e.own) same ∙ same_own, ap (λ (z : Own). z.root) eq, inr (ap (λ (z : Own). z.ended) eq, subst (λ z. IsOver e (record left { own = after }) x.recall z) (sym same) over))
        | inr ne ↦ (p, sym (get_apart nat_cmp_total nat_cmp-IsAntisymmetric e.own x.recall.number (with_end own) k ne) ∙ is, refl, inl refl)
      ])
      (λ k p is ends.
      let same : x.recall.number ≡ k = ap (λ (z : Recall). z.number) ends.recall in
      let one : Some (with_end own) ≡ Some p = sym (get_here nat_cmp_total nat_cmp-IsAntisymmetric e.own x.recall.number (with_end own)) ∙ ap (get after) same ∙ is in
      let eq : p ≡ with_end own = cc in
      ap (λ (z : Own). z.ended) eq)
  settled_clears false None None rows up lives =
      left_clears e.parents e.own (λ q p is. inl is) (λ q p is. is) (λ _. up)
      (λ k o is. (o, is, refl, inl refl)) (λ k o is. (o, is, refl, inl refl))
      (λ k p is over. elim p.ended as (λ b. p.ended ≡ b → b ≡ true) [
        | true ↦ λ h. refl
        | false ↦ λ h.
            let number : k ≡ x.recall.number = ap (λ (z : Recall). z.number) (sym over.recall) in
            absurd (not_live e x.recall lives (record { mine = ap (λ (z : Recall). z.site) (sym over.recall); own = p; known = ap (get e.own) (sym number) ∙ is; unended = h }))
      ] refl)

  settled_tells : (rows : Bool) (parent : Option Message) (live : Option Own)
      → has_rows left.outbox x.recall ≡ rows → get e.parents x.recall ≡ parent → live_own e x.recall ≡ live
      → TellsCleared e (settled left x.recall rows parent live).0 x.recall (settled left x.recall rows parent live).1
  settled_tells true parent live rows up lives = inl (rows_are_found left.outbox x.recall rows)
  settled_tells false (Some parent) live rows up lives = (up, no_row left.outbox x.recall rows)
  settled_tells false None (Some own) rows up lives = (refl, up, live_is e x.recall own lives, no_row left.outbox x.recall rows)
  settled_tells false None None rows up lives = inr (up, not_live e x.recall lives)

  pub standing_is_cleared : Clears e (signalled e n).0 n x × TellsCleared e (signalled e n).0 x.recall (signalled e n).1
  standing_is_cleared =
      subst (λ row. Clears e (at_row e n row).0 n x × TellsCleared e (at_row e n row).0 x.recall (at_row e n row).1) (sym was) (
        settled_clears (has_rows left.outbox x.recall) (get left.parents x.recall) (live_own left x.recall) refl refl refl,
        settled_tells (has_rows left.outbox x.recall) (get left.parents x.recall) (live_own left x.recall) refl refl refl,
      )

pub no_row_is_stale : (e : Engagement) (n : ℕ) → get e.outbox n ≡ None → signalled e n ≡ (e, Stale)
no_row_is_stale e n none = ap (at_row e n) none
