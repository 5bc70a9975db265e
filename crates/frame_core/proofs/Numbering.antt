-- What numbering messages does to the rows of an outbox.
use Rattle.std.proofs.Common.{◌≡◌, ◌⊎◌, inl, inr, ℕ, zero, suc, ◌+◌, ◌<◌, ◌≤◌, drop, List, [], ◌∷◌, length, get_or, Some, refl, sym, ap, subst, ◌∙◌, arith}
use Rattle.std.specs.Prelude.{slice_get}
use Rattle.std.specs.Ordering.{nat_cmp}
use Rattle.std.specs.Cmp.{nat_cmp_total}
use Rattle.std.specs.FinMap.{FinMap, nat_cmp-IsAntisymmetric, get, insert}
use Rattle.std.proofs.Math.Seq.{drop-cons}
use Rattle.frame_core.specs.Numbers.{Recall}
use Rattle.frame_core.specs.declared.rows.Row.{Row}
use Rattle.frame_core.specs.Outboxes.{row_for, numbered}
use Rattle.frame_core.specs.Laws.{IsNewRow}
use Rattle.frame_core.proofs.Lookups.{get_here, get_apart, one_key}

-- a row below the first number is kept
pub numbered_kept : (m : FinMap nat_cmp Row) (n : ℕ) (r : Recall) (out : List (ℕ × List ℕ)) (q : ℕ) → q < n → get (numbered m n r out) q ≡ get m q
numbered_kept m n r [] q lt = refl
numbered_kept m n r (pair ∷ out) q lt =
    numbered_kept (insert m n (row_for r pair)) (n + 1) r out q (omega arith)
    ∙ get_apart nat_cmp_total nat_cmp-IsAntisymmetric m n (row_for r pair) q (λ same. omega arith)

-- so is one from the next number on, of which only a restored outbox has any
pub numbered_above : (m : FinMap nat_cmp Row) (n : ℕ) (r : Recall) (out : List (ℕ × List ℕ)) (q : ℕ) → n + length out ≤ q → get (numbered m n r out) q ≡ get m q
numbered_above m n r [] q le = refl
numbered_above m n r (pair ∷ out) q le =
    numbered_above (insert m n (row_for r pair)) (n + 1) r out q (omega arith)
    ∙ get_apart nat_cmp_total nat_cmp-IsAntisymmetric m n (row_for r pair) q (λ same. omega arith)

-- each new message has its row, at its number
pub numbered_told : (m : FinMap nat_cmp Row) (n : ℕ) (r : Recall) (out : List (ℕ × List ℕ)) (i q : ℕ) (pair : ℕ × List ℕ) → slice_get out i ≡ Some pair → q ≡ n + i → get (numbered m n r out) q ≡ Some (row_for r pair)
numbered_told m n r [] i q pair is at = cc
numbered_told m n r (first ∷ out) zero q pair is at =
    let here : q ≡ n = omega arith in
    let same : first ≡ pair = cc in
    numbered_kept (insert m n (row_for r first)) (n + 1) r out q (omega arith)
    ∙ subst (λ k. get (insert m n (row_for r first)) k ≡ Some (row_for r first)) (sym here) (get_here nat_cmp_total nat_cmp-IsAntisymmetric m n (row_for r first))
    ∙ ap (λ p. Some (row_for r p)) same
numbered_told m n r (first ∷ out) (suc i) q pair is at =
    numbered_told (insert m n (row_for r first)) (n + 1) r out i q pair is (omega arith)

-- a row afterwards was there before, or is one of the new ones
pub numbered_origin : (m : FinMap nat_cmp Row) (n : ℕ) (r : Recall) (out : List (ℕ × List ℕ)) (q : ℕ) (x : Row) → get (numbered m n r out) q ≡ Some x → (get m q ≡ Some x) ⊎ IsNewRow n r out q x
numbered_origin m n r [] q x is = inl is
numbered_origin m n r (pair ∷ out) q x is =
    elim (numbered_origin (insert m n (row_for r pair)) (n + 1) r out q x is) [
      | inr new ↦ inr (record { place = suc new.place; number = omega (arith, new.number); message = new.message; recall = new.recall })
      | inl before ↦ elim (one_key nat_cmp_total nat_cmp-IsAntisymmetric q n) [
        | inl same ↦
            let here : Some (row_for r pair) ≡ Some x = sym (get_here nat_cmp_total nat_cmp-IsAntisymmetric m n (row_for r pair)) ∙ ap (get (insert m n (row_for r pair))) (sym same) ∙ before in
            let is_row : row_for r pair ≡ x = cc in
            inr (record { place = 0; number = omega arith; message = ap (λ (row : Row). Some (row.dest, row.item)) is_row; recall = ap (λ (row : Row). row.recall) (sym is_row) })
        | inr ne ↦ inl (sym (get_apart nat_cmp_total nat_cmp-IsAntisymmetric m n (row_for r pair) q ne) ∙ before)
      ]
    ]

within : {A : Type 0} (xs : List A) (i : ℕ) (x : A) → slice_get xs i ≡ Some x → i < length xs
within [] i x is = cc
within (y ∷ xs) zero x is = omega arith
within (y ∷ xs) (suc i) x is = omega (arith, within xs i x is)

-- and a new one has a number below the next
pub new_row_below : (n : ℕ) (r : Recall) (out : List (ℕ × List ℕ)) (q : ℕ) (x : Row) → IsNewRow n r out q x → q < n + length out
new_row_below n r out q x new = omega (arith, new.number, within out new.place (x.dest, x.item) new.message)

-- once the next message has its row, the rest is to be numbered
pub numbered_next : (m : FinMap nat_cmp Row) (n i : ℕ) (r : Recall) (out : List (ℕ × List ℕ)) (pair : ℕ × List ℕ) → i < length out → pair ≡ get_or out i pair
    → numbered (insert m (n + i) (row_for r pair)) (n + (i + 1)) r (drop (i + 1) out) ≡ numbered m (n + i) r (drop i out)
numbered_next m n i r out pair lt is =
    let at : n + (i + 1) ≡ (n + i) + 1 = omega arith in
    let next : i + 1 ≡ suc i = omega arith in
    let here : drop i out ≡ pair ∷ drop (suc i) out = drop-cons out i pair lt ∙ ap (λ p. p ∷ drop (suc i) out) (sym is) in
    ap (λ k. numbered (insert m (n + i) (row_for r pair)) k r (drop (i + 1) out)) at
    ∙ ap (λ k. numbered (insert m (n + i) (row_for r pair)) ((n + i) + 1) r (drop k out)) next
    ∙ ap (numbered m (n + i) r) (sym here)
