-- A test of each element of a list, one after another.
use Rattle.std.proofs.Common.{◌≡◌, ◌⊎◌, ◌↔◌, inl, inr, ℕ, ◌+◌, ◌<◌, ◌≤◌, Bool, true, false, List, [], ◌∷◌, length, get_or, refl, sym, ap, ◌∙◌, subst, arith, ltb}
use mathlib.Core.Bool.{false≢true}
use Rattle.std.specs.Prelude.{IsTrue}
use Rattle.std.specs.List.{Contains}
use Rattle.std.proofs.lemmas.List.{get_or_default}
use Rattle.trace_core.proofs.Members.{contains_here, contains_there, contains_cases, contains_none}

pub lower_or_last : (k n : ℕ) → k < n + 1 → (k < n) ⊎ (k ≡ n)
lower_or_last k n low = elim (ltb k n) as (λ t. ltb k n ≡ t → (k < n) ⊎ (k ≡ n)) [
  | true ↦ λ e. inl (grind arith)
  | false ↦ λ e. inr (grind (arith, low))
] refl

module _ {X : Type 0} (P : X → Type 0) where
  -- each element passes, but for those that are left
  pub record AllBut (whole left : List X) : Type 0 where
    pub passed : (x : X) → Contains whole x → P x ⊎ Contains left x
    pub within : (x : X) → Contains left x → Contains whole x

  pub none_passed : (whole left : List X) → left ≡ whole → AllBut whole left
  none_passed whole left same = record { passed = λ x at. inr (subst (λ xs. Contains xs x) (sym same) at); within = λ x at. subst (λ xs. Contains xs x) same at }

  pub one_passed : (whole before left : List X) (x : X) → before ≡ x ∷ left → P x → AllBut whole before → AllBut whole left
  one_passed whole before left x next passes so_far = record {
    passed = λ y at. elim (so_far.passed y at) as (λ _. P y ⊎ Contains left y) [
      | inl passed ↦ inl passed
      | inr waits ↦ elim (contains_cases x y left (subst (λ xs. Contains xs y) next waits)) as (λ _. P y ⊎ Contains left y) [
        | inl same ↦ inl (subst P same passes)
        | inr later ↦ inr later
      ]
    ];
    within = λ y at. so_far.within y (subst (λ xs. Contains xs y) (sym next) (contains_there x y left at));
  }

  pub all_passed : (whole left : List X) → left ≡ [] → AllBut whole left → (x : X) → Contains whole x → P x
  all_passed whole left none so_far x at = elim (so_far.passed x at) as (λ _. P x) [
    | inl passed ↦ passed
    | inr waits ↦ absurd (contains_none x (subst (λ xs. Contains xs x) none waits))
  ]

  pub one_fails : (whole before left : List X) (x : X) (b : Bool) → before ≡ x ∷ left → b ≡ false → (IsTrue b ↔ P x) → AllBut whole before → ((y : X) → Contains whole y → P y) → IsTrue false
  one_fails whole before left x b next fails decides so_far all =
      absurd (false≢true (sym fails ∙ decides.1 (all x (so_far.within x (subst (λ xs. Contains xs x) (sym next) (contains_here x left))))))

  -- the same by places
  abbrev pub PassedBelow : List X → ℕ → Type 0
  PassedBelow whole n = (k : ℕ) (x : X) → k < n → k < length whole → get_or whole k x ≡ x → P x

  pub one_more_passed : (whole : List X) (n : ℕ) (y : X) → y ≡ get_or whole n y → P y → PassedBelow whole n → PassedBelow whole (n + 1)
  one_more_passed whole n y is passes so_far k x low within at = elim (lower_or_last k n low) as (λ _. P x) [
    | inl lower ↦ so_far k x lower within at
    | inr last ↦
        let same : y ≡ x = is ∙ get_or_default whole n y x (subst (λ j. j < length whole) last within) ∙ ap (λ j. get_or whole j x) (sym last) ∙ at in
        subst P same passes
  ]

  pub all_below_passed : (whole : List X) (n : ℕ) → length whole ≤ n → PassedBelow whole n → (x : X) → Contains whole x → P x
  all_below_passed whole n past so_far x (k, within, at) = so_far k x (omega (arith, within, past)) within at
