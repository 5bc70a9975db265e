-- What the tests of related pairs and of rows decide.
use Rattle.std.proofs.Common.{◌≡◌, ◌≢◌, ◌⊎◌, ◌↔◌, inl, inr, ℕ, Bool, true, false, not, List, [], ◌∷◌, Some, refl, sym, ap, ◌∙◌, subst}
use mathlib.Core.Bool.{false≢true}
use Rattle.std.specs.Ordering.{nat_cmp}
use Rattle.std.specs.Cmp.{nat_cmp_total}
use Rattle.std.specs.FinMap.{FinMap, get, entries, nat_cmp-IsAntisymmetric}
use Rattle.std.specs.List.{Contains}
use Rattle.std.specs.Prelude.{IsTrue}
use Rattle.frame_core.specs.Orders.{recall_total, recall_exact}
use Rattle.frame_core.specs.declared.rows.Row.{Row}
use Rattle.frame_core.proofs.Lookups.{one_key}
use Rattle.trace_core.specs.declared.pairs.Pair.{Pair}
use Rattle.trace_core.proofs.Members.{contains_here, contains_there, contains_cases, contains_none}
use Rattle.site_core.proofs.ItemOrder.{item_total, item_exact}
use Rattle.site_core.proofs.Entries.{entry_found, entry_there}
use Rattle.site_recovery.proofs.MapsOfSites.{Each}
use Rattle.site_recovery.proofs.OneSite.{one_place}

-- of a list in which not every element fails, one passes
found_one : {X : Type 0} (P : X → Type 0) → ((x : X) → P x ⊎ (P x → ⊥)) → (xs : List X) → (((x : X) → Contains xs x → P x → ⊥) → ⊥) → (x : X) × Contains xs x × P x
found_one P decide [] some = absurd (some (λ x at _. contains_none x at))
found_one P decide (y ∷ ys) some = elim (decide y) [
  | inl here ↦ (y, contains_here y ys, here)
  | inr fails ↦
      let later = found_one P decide ys (λ none. some (λ x at holds. elim (contains_cases y x ys at) as (λ _. ⊥) [
        | inl same ↦ fails (subst P (sym same) holds)
        | inr there ↦ none x there holds
      ])) in
      (later.0, contains_there y later.0 ys later.1, later.2)
]

-- a test that fails where something is there
denied : (b : Bool) (N S : Type 0) → (IsTrue b ↔ N) → ((N → ⊥) → S) → (S → N → ⊥) → IsTrue (not b) ↔ S
denied true N S decides found apart = (λ h. absurd (false≢true h), λ s. absurd (apart s (decides.0 refl)))
denied false N S decides found apart = (λ _. found (λ n. false≢true (decides.1 n)), λ _. refl)

one_row : (x y : Row) → (x ≡ y) ⊎ (x ≢ y)
one_row x y = elim (one_place x.dest y.dest) as (λ _. (x ≡ y) ⊎ (x ≢ y)) [
  | inr apart ↦ inr (λ same. apart (ap (λ (z : Row). z.dest) same))
  | inl dest ↦ elim (one_key recall_total recall_exact x.recall y.recall) as (λ _. (x ≡ y) ⊎ (x ≢ y)) [
    | inr apart ↦ inr (λ same. apart (ap (λ (z : Row). z.recall) same))
    | inl recall ↦ elim (one_key item_total item_exact x.item y.item) as (λ _. (x ≡ y) ⊎ (x ≢ y)) [
      | inr apart ↦ inr (λ same. apart (ap (λ (z : Row). z.item) same))
      | inl item ↦ inl (λ i. record { dest = dest i; recall = recall i; item = item i })
    ]
  ]
]

pub tells_decided : (m : FinMap nat_cmp Row) (es : List (ℕ × Row)) → es ≡ entries m → (x : Row) (b : Bool) → (IsTrue b ↔ Each es (λ _ y. y ≡ x → ⊥)) → IsTrue (not b) ↔ ((n : ℕ) × (get m n ≡ Some x))
tells_decided m es same x b decides =
    denied b (Each es (λ _ y. y ≡ x → ⊥)) ((n : ℕ) × (get m n ≡ Some x)) decides
    (λ some.
    let e = found_one (λ (e : ℕ × Row). e.1 ≡ x) (λ e. one_row e.1 x) es (λ none. some (λ k v at. none (k, v) at)) in
    (e.0.0, entry_found nat_cmp_total m e.0.0 e.0.1 (subst (λ xs. Contains xs e.0) same e.1) ∙ ap Some e.2))
    (λ told none. none told.0 x (subst (λ xs. Contains xs (told.0, x)) (sym same) (entry_there nat_cmp_total nat_cmp-IsAntisymmetric m told.0 x told.1)) refl)

one_pair : (p q : Pair) → (p ≡ q) ⊎ (p ≢ q)
one_pair p q = elim (one_place p.site q.site) as (λ _. (p ≡ q) ⊎ (p ≢ q)) [
  | inr apart ↦ inr (λ same. apart (ap (λ (z : Pair). z.site) same))
  | inl site ↦ elim (one_key item_total item_exact p.item q.item) as (λ _. (p ≡ q) ⊎ (p ≢ q)) [
    | inr apart ↦ inr (λ same. apart (ap (λ (z : Pair). z.item) same))
    | inl item ↦ inl (λ i. record { site = site i; item = item i })
  ]
]

pub among_decided : (pairs : List Pair) (q : Pair) (b : Bool) → (IsTrue b ↔ ((p : Pair) → Contains pairs p → p ≡ q → ⊥)) → IsTrue (not b) ↔ Contains pairs q
among_decided pairs q b decides =
    denied b ((p : Pair) → Contains pairs p → p ≡ q → ⊥) (Contains pairs q) decides
    (λ some. let p = found_one (λ p. p ≡ q) (λ p. one_pair p q) pairs some in subst (Contains pairs) p.2 p.1)
    (λ at none. none q at refl)
