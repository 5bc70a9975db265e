-- What is added to something that holds elements, one part after another.
use Rattle.std.proofs.Common.{◌≡◌, ◌↔◌, inl, inr, ℕ, ◌+◌, ◌<◌, ◌≤◌, ◌||◌, Bool, true, false, List, [], ◌∷◌, ◌++◌, length, take, get_or, refl, subst, sym, ⊎_elim, arith}
use mathlib.Core.Bool.{false≢true}
use mathlib.Core.Logic.{◌⊎◌}
use Rattle.std.specs.List.{Contains}
use Rattle.std.proofs.lemmas.Bool.{cases_lt}
use Rattle.std.proofs.lemmas.List.{take_all}
use Rattle.trace_core.proofs.SetMembers.{contains_more, contains_pushed}
use Rattle.gap_core.specs.Adding.{AddsNothing, AddsTo, AddsToList, ByOne}

module _ {X : Type 0} where
  pub adds_nothing : (Old P : X → Type 0) → ((x : X) → P x → ⊥) → AddsTo Old Old P
  adds_nothing Old P none x = (λ h. inl h, λ h. ⊎_elim (λ was. was) (λ p. absurd (none x p)) h)

  pub adds_alike : (Old New P Q : X → Type 0) → ((x : X) → P x ↔ Q x) → AddsTo Old New P → AddsTo Old New Q
  adds_alike Old New P Q alike adds x = (
    λ h. ⊎_elim (λ was. inl was) (λ p. inr ((alike x).0 p)) ((adds x).0 h),
    λ h. (adds x).1 (⊎_elim (λ was. inl was) (λ q. inr ((alike x).1 q)) h),
  )

  pub adds_then : (Old Mid New P Q : X → Type 0) → AddsTo Old Mid P → AddsTo Mid New Q → AddsTo Old New (λ x. P x ⊎ Q x)
  adds_then Old Mid New P Q first second x = (
    λ h. ⊎_elim
        (λ mid. ⊎_elim (λ was. inl was) (λ p. inr (inl p)) ((first x).0 mid))
        (λ q. inr (inr q))
        ((second x).0 h),
    λ h. (second x).1 (⊎_elim
        (λ was. inl ((first x).1 (inl was)))
        (λ new. ⊎_elim (λ p. inl ((first x).1 (inr p))) (λ q. inr q) new)
        h),
  )

  -- one element more at the end
  pub adds_one : (old new : List X) (y : X) → new ≡ old ++ y ∷ [] → AddsToList old new (λ x. y ≡ x)
  adds_one old new y is x = subst (λ xs. Contains xs x ↔ (Contains old x ⊎ (y ≡ x))) (sym is) (contains_pushed old y x)

  -- nothing is new where nothing was
  pub nothing_then : (Old Mid New : X → Type 0) → AddsNothing Old Mid → AddsNothing Mid New → AddsNothing Old New
  nothing_then Old Mid New first second x h = first x (second x h)

-- neither is so
pub neither : (a b : Bool) → (a || b) ≡ false → (a ≡ false) × (b ≡ false)
neither true b h = absurd (true≢false h)
  where
    true≢false : true ≡ false → ⊥
    true≢false e = false≢true (sym e)
neither false b h = (refl, h)

-- one place after another
abbrev pub Before : {X : Type 0} → ℕ → (ℕ → X → Type 0) → X → Type 0
Before n P x = (k : ℕ) × (k < n) × P k x

module _ {X : Type 0} (P : ℕ → X → Type 0) where
  pub none_before : (x : X) → Before 0 P x → ⊥
  none_before x (k, below, p) = omega (arith, below)

  pub before_more : (n : ℕ) (x : X) → (Before n P x ⊎ P n x) ↔ Before (n + 1) P x
  before_more n x = (
    λ h. ⊎_elim (λ (k, below, p). (k, omega (arith, below), p)) (λ p. (n, omega arith, p)) h,
    λ (k, below, p). ⊎_elim
        (λ sooner. inl (k, sooner, p))
        (λ past. let here : k ≡ n = omega (arith, below, past) in inr (subst (λ m. P m x) here p))
        (cases_lt k n),
  )

  pub more_before : (n : ℕ) (Start Old New : X → Type 0) → AddsTo Start Old (Before n P) → AddsTo Old New (P n) → AddsTo Start New (Before (n + 1) P)
  more_before n Start Old New before adds =
      adds_alike Start New (λ x. Before n P x ⊎ P n x) (Before (n + 1) P) (before_more n) (adds_then Start Old New (Before n P) (P n) before adds)

module _ {X Y : Type 0} (P : Y → X → Type 0) (ys : List Y) where
  pub none_by_one : length ys ≤ 0 → (x : X) → ByOne ys P x → ⊥
  none_by_one none x (y, (k, below, at), p) = omega (arith, none, below)

  module _ (i : ℕ) where
    pub by_one_more : (y : Y) → i < length ys → y ≡ get_or ys i y → (x : X) → (ByOne (take i ys) P x ⊎ P y x) ↔ ByOne (take (i + 1) ys) P x
    by_one_more y below at x =
        let more = contains_more ys i y below at in (
          λ h. ⊎_elim
              (λ (z, there, p). (z, (more z).1 (inl there), p))
              (λ p. (y, (more y).1 (inr refl), p))
              h,
          λ (z, there, p). ⊎_elim
              (λ earlier. inl (z, earlier, p))
              (λ same. inr (subst (λ w. P w x) (sym same) p))
              ((more z).0 there),
        )

    pub one_more : (Start Old New : X → Type 0) (y : Y) → i < length ys → y ≡ get_or ys i y → AddsTo Start Old (ByOne (take i ys) P) → AddsTo Old New (P y) → AddsTo Start New (ByOne (take (i + 1) ys) P)
    one_more Start Old New y below at before adds =
        adds_alike Start New (λ x. ByOne (take i ys) P x ⊎ P y x) (ByOne (take (i + 1) ys) P) (by_one_more y below at) (adds_then Start Old New (ByOne (take i ys) P) (P y) before adds)

    pub all_added : (Start New : X → Type 0) → length ys ≤ i → AddsTo Start New (ByOne (take i ys) P) → AddsTo Start New (ByOne ys P)
    all_added Start New past adds = subst (λ zs. AddsTo Start New (ByOne zs P)) (take_all i ys past) adds
