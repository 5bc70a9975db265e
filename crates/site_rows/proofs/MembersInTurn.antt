-- A list that was read to its end is the only one whose rows begin so.
use Rattle.std.proofs.Common.{◌≡◌, ◌⊎◌, inl, inr, ℕ, ◌+◌, ◌≤◌, suc, Option, Some, List, [], ◌∷◌, ◌++◌, length, map, refl, sym, ap, subst, ◌∙◌, arith}
use Rattle.std.specs.List.{All, enumerate_from, slice_get}
use Rattle.std.proofs.lemmas.List.Elements.{All-head, All-tail}
use Rattle.site_rows.specs.PartsInTurn.{IsListBy, IsMemberBy}

-- rows that are made of a place and a text, and tell the text
module _ {R : Type 0} (row_of : ℕ × List ℕ → R) (text_of : R → List ℕ) (tells : (p : ℕ × List ℕ) → text_of (row_of p) ≡ p.1) where
  -- the first row, where there is one, is none of them
  abbrev pub IsOff : List R → Type 0
  IsOff rows = (p : ℕ × List ℕ) → slice_get rows 0 ≡ Some (row_of p) → ⊥

  -- the rows behind a list that was read to its end are those behind any list of these rows
  same_list : {M : Type 0} (Is : M → Type 0) (text : M → List ℕ) (most n : ℕ) (ms other : List M) (next : Option R) (on behind : List R)
      → (n + length ms ≡ most) ⊎ ((m : M) → IsMemberBy row_of Is text (n + length ms) next m → ⊥)
      → All Is other → n + length other ≤ most → slice_get on 0 ≡ next → IsOff behind
      → map row_of (enumerate_from n (map text ms)) ++ on ≡ map row_of (enumerate_from n (map text other)) ++ behind
      → (map text ms ≡ map text other) × (on ≡ behind)
  same_list Is text most n [] [] next on behind ends all few first off e = (refl, e)
  same_list {M = M} Is text most n [] (o ∷ other) next on behind ends all few first off e = elim ends [
    | inl full ↦ absurd (omega (arith, full, few))
    | inr none ↦
        let at : n ≡ n + 0 = omega arith in
        let there : next ≡ Some (row_of (n, text o)) = sym first ∙ ap (λ xs. slice_get xs 0) e in
        absurd (none o (record { there = there ∙ ap (λ k. Some (row_of (k, text o))) at; is = All-head Is o other all }))
  ]
  same_list Is text most n (m ∷ ms) [] next on behind ends all few first off e = absurd (off (n, text m) (sym (ap (λ xs. slice_get xs 0) e)))
  same_list {M = M} Is text most n (m ∷ ms) (o ∷ other) next on behind ends all few first off e =
      let head : row_of (n, text m) ≡ row_of (n, text o) = cc in
      let tail : map row_of (enumerate_from (n + 1) (map text ms)) ++ on ≡ map row_of (enumerate_from (n + 1) (map text other)) ++ behind = cc in
      let size : n + suc (length ms) ≡ n + 1 + length ms = omega arith in
      let ended = subst (λ k. (k ≡ most) ⊎ ((x : M) → IsMemberBy row_of Is text k next x → ⊥)) size ends in
      let rest = same_list Is text most (n + 1) ms other next on behind ended (All-tail Is o other all) (omega (arith, few)) first off tail in
      let one = sym (tells (n, text m)) ∙ ap text_of head ∙ tells (n, text o) in
      ((λ i. one i ∷ rest.0 i), rest.1)

  pub same_members : {M : Type 0} (Is : M → Type 0) (text : M → List ℕ) (most : ℕ) (rows : List R) (from to : ℕ) (ms other : List M) (on behind : List R)
      → IsListBy row_of Is text most rows from to ms → All Is other → length other ≤ most → slice_get on 0 ≡ slice_get rows to → IsOff behind
      → map row_of (enumerate_from 0 (map text ms)) ++ on ≡ map row_of (enumerate_from 0 (map text other)) ++ behind
      → (map text ms ≡ map text other) × (on ≡ behind)
  same_members {M = M} Is text most rows from to ms other on behind read all few first off e =
      let size : length ms ≡ 0 + length ms = omega arith in
      let ended = subst (λ k. (k ≡ most) ⊎ ((x : M) → IsMemberBy row_of Is text k (slice_get rows to) x → ⊥)) size read.ends in
      same_list Is text most 0 ms other (slice_get rows to) on behind ended all (omega (arith, few)) first off e
