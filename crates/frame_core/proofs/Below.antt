-- What is kept below a number, and rows that are taken back from there on.
use Rattle.std.proofs.Common.{◌≡◌, inl, inr, ℕ, zero, suc, ◌+◌, ◌-◌, ◌<◌, ◌≤◌, List, [], ◌∷◌, length, Some, None, refl, sym, ap, subst, ◌∙◌, ⊎_elim, arith}
use Rattle.std.specs.Prelude.{IsSome}
use Rattle.std.specs.BTreeMap.{BTreeMap, is_at, IsOrdered, IsUpperBound}
use Rattle.std.specs.BTreeMap as tree
use Rattle.std.specs.Cmp.{nat_cmp_total}
use Rattle.std.specs.FinMap.{FinMap, nat_cmp-IsAntisymmetric, get, remove, same_map}
use Rattle.std.specs.Map.{lookup}
use Rattle.std.specs.Ordering.{nat_cmp}
use Rattle.std.proofs.lemmas.Bool.{cases_lt}
use Rattle.std.proofs.lemmas.Map.Keys.{ge_from_not_lt}
use Rattle.frame_core.specs.Counts.{without_rows}
use Rattle.frame_core.specs.Numbers.{Recall}
use Rattle.frame_core.specs.Outboxes.{numbered}
use Rattle.frame_core.specs.Tables.{as_map, AreBelow}
use Rattle.frame_core.specs.declared.rows.Row.{Row}
use Rattle.frame_core.proofs.Lookups.{one_key, get_gone, get_left}
use Rattle.frame_core.proofs.Maps.{map_found}
use Rattle.frame_core.proofs.Numbering.{numbered_kept, numbered_above}

-- from that number on nothing is kept
pub free_number : {X : Type 0} (m : FinMap nat_cmp X) (n k : ℕ) → AreBelow m n → n ≤ k → get m k ≡ None
free_number m n k below le = elim (get m k) as (λ o. get m k ≡ o → o ≡ None) [
  | None ↦ λ e. refl
  | Some x ↦ λ e. absurd (omega (arith, below k (subst IsSome (sym e) refl), le))
] refl

-- The last key of a tree map tells it.

module _ {X : Type 0} (m : BTreeMap ℕ X) (n : ℕ) (up : IsOrdered nat_cmp m) where
  pub below_last : (last : ℕ) → IsUpperBound nat_cmp m last → last < n → AreBelow (as_map nat_cmp m) n
  below_last last bound lt k some =
      let at_most : k ≤ last = ge_from_not_lt last k (bound k (subst IsSome (sym (map_found nat_cmp_total m k up)) some)) in
      omega (arith, lt, at_most)

  pub last_below : (last : ℕ) (x : X) → tree.get nat_cmp m last ≡ Some x → AreBelow (as_map nat_cmp m) n → last < n
  last_below last x is below = below last (subst IsSome (sym (sym (map_found nat_cmp_total m last up) ∙ is)) refl)

  some_entry : (es : List (ℕ × X)) (k : ℕ) → IsSome (lookup (is_at (nat_cmp k)) es) → 0 < length es
  some_entry [] k some = cc
  some_entry (e ∷ es) k some = omega arith

  pub none_below : (0 < length m.entries → ⊥) → AreBelow (as_map nat_cmp m) n
  none_below none k some = absurd (none (some_entry m.entries k (subst IsSome (sym (map_found nat_cmp_total m k up)) some)))

-- Rows without those of some numbers.

without_before : (rows : FinMap nat_cmp Row) (n k q : ℕ) → q < n → get (without_rows rows n k) q ≡ get rows q
without_before rows n zero q lt = refl
without_before rows n (suc k) q lt =
    without_before (remove rows n) (n + 1) k q (omega (arith, lt)) ∙ get_left nat_cmp_total nat_cmp-IsAntisymmetric rows n q (λ same. omega (arith, lt))

without_past : (rows : FinMap nat_cmp Row) (n k q : ℕ) → n + k ≤ q → get (without_rows rows n k) q ≡ get rows q
without_past rows n zero q le = refl
without_past rows n (suc k) q le =
    without_past (remove rows n) (n + 1) k q (omega (arith, le)) ∙ get_left nat_cmp_total nat_cmp-IsAntisymmetric rows n q (λ same. omega (arith, le))

without_there : (rows : FinMap nat_cmp Row) (n k q : ℕ) → n ≤ q → q < n + k → get (without_rows rows n k) q ≡ None
without_there rows n zero q le lt = absurd (omega (arith, le, lt))
without_there rows n (suc k) q le lt = elim (one_key nat_cmp_total nat_cmp-IsAntisymmetric q n) [
  | inl same ↦ without_before (remove rows n) (n + 1) k q (omega (arith, same)) ∙ ap (get (remove rows n)) same ∙ get_gone nat_cmp_total nat_cmp-IsAntisymmetric rows n
  | inr ne ↦ without_there (remove rows n) (n + 1) k q (⊎_elim (λ next. omega (arith, next)) (λ back. absurd (ne (omega (arith, back, le)))) (cases_lt n q)) (omega (arith, lt))
]

-- messages that were numbered from free numbers on are taken back
pub unnumbered : (rows : FinMap nat_cmp Row) (n : ℕ) (r : Recall) (out : List (ℕ × List ℕ)) → AreBelow rows n → without_rows (numbered rows n r out) n (length out) ≡ rows
unnumbered rows n r out below = same_map nat_cmp_total nat_cmp-IsAntisymmetric _ _ (λ q. ⊎_elim
    (λ before. without_before (numbered rows n r out) n (length out) q before ∙ numbered_kept rows n r out q before)
    (λ from. ⊎_elim
    (λ there. without_there (numbered rows n r out) n (length out) q from there ∙ sym (free_number rows n q below from))
    (λ past. without_past (numbered rows n r out) n (length out) q past ∙ numbered_above rows n r out q past)
    (cases_lt q (n + length out)))
    (cases_lt q n))

-- those of the next number are taken, and then the rest
pub without_next : (rows : FinMap nat_cmp Row) (n next : ℕ) → n < next → without_rows (remove rows n) (n + 1) (next - (n + 1)) ≡ without_rows rows n (next - n)
without_next rows n next lt =
    let more : suc (next - (n + 1)) ≡ next - n = omega (arith, lt) in
    ap (without_rows rows n) more
