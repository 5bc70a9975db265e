-- What rows announce to a site.
use Rattle.std.proofs.Common.{◌≡◌, ◌⊎◌, ◌↔◌, inl, inr, ℕ, List, Some, sym, ap, ◌∙◌, subst}
use Rattle.std.specs.Cmp.{nat_cmp_total}
use Rattle.std.specs.FinMap.{FinMap, entries, get, nat_cmp-IsAntisymmetric}
use Rattle.std.specs.List.{Contains}
use Rattle.std.specs.Ordering.{nat_cmp}
use Rattle.std.specs.Prelude.{IsTrue}
use Rattle.frame_core.specs.Numbers.{Recall}
use Rattle.frame_core.specs.declared.rows.Row.{Row}
use Rattle.site_core.specs.Quarantines.{Quarantine, held, with_item}
use Rattle.site_core.proofs.HeldLaws.{held_one}
use Rattle.site_core.proofs.Entries.{entry_found, entry_there}

-- the row tells the site of the item under the recall
abbrev pub RowTells : ℕ → ℕ × Row → Recall × List ℕ → Type 0
RowTells dest e f = e.1 ≡ record { dest = dest; recall = f.0; item = f.1 }

abbrev pub IsHeldIn : Quarantine → Recall × List ℕ → Type 0
IsHeldIn q f = IsTrue (held q f.0 f.1)

pub row_held : (told new : Quarantine) (x : Row) (dest : ℕ) (item : List ℕ) → x.dest ≡ dest → item ≡ x.item → new ≡ with_item told x.recall item → (r : Recall) (i : List ℕ)
    → IsTrue (held new r i) ↔ ((x ≡ record { dest = dest; recall = r; item = i }) ⊎ IsTrue (held told r i))
row_held told new x dest item at copied is r i =
    let law = held_one told x.recall item r i in (
      λ h. elim (law.0 (subst (λ q. IsTrue (held q r i)) is h)) as (λ _. (x ≡ record { dest = dest; recall = r; item = i }) ⊎ IsTrue (held told r i)) [
        | inl now ↦ inl (λ k. record { dest = at k; recall = sym now.0 k; item = (sym copied ∙ sym now.1) k })
        | inr was ↦ inr was
      ],
      λ h. subst (λ q. IsTrue (held q r i)) (sym is) (law.1 (elim h as (λ _. ((r ≡ x.recall) × (i ≡ item)) ⊎ IsTrue (held told r i)) [
        | inl same ↦ inl (sym (ap (λ (z : Row). z.recall) same), sym (ap (λ (z : Row). z.item) same) ∙ sym copied)
        | inr was ↦ inr was
      ])),
    )

-- what rows announce is what is found among them
pub tells_found : (m : FinMap nat_cmp Row) (es : List (ℕ × Row)) → es ≡ entries m → (x : Row) → ((e : ℕ × Row) × Contains es e × (e.1 ≡ x)) ↔ ((n : ℕ) × (get m n ≡ Some x))
tells_found m es same x = (
  λ (e, at, is). (e.0, entry_found nat_cmp_total m e.0 e.1 (subst (λ xs. Contains xs e) same at) ∙ ap Some is),
  λ (n, is). ((n, x), subst (λ xs. Contains xs (n, x)) (sym same) (entry_there nat_cmp_total nat_cmp-IsAntisymmetric m n x is), λ i. x),
)
