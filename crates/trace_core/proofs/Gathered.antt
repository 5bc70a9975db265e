-- What a loop over a list has gathered, beside what is left of the list.
use Rattle.std.proofs.Common.{◌≡◌, List, [], ◌∷◌, ◌↔◌, sym, subst, inl, inr, ⊎_elim}
use mathlib.Core.Logic.{◌⊎◌}
use Rattle.std.specs.List.{Contains}
use Rattle.trace_core.proofs.Members.{contains_here, contains_there, contains_cases, contains_none}

-- one of the elements gives it
abbrev pub FromSome : {E X : Type 0} → (E → X → Type 0) → List E → X → Type 0
FromSome {E} G es x = (e : E) × Contains es e × G e x

-- what was there, and what all elements give, is what is there now, and what those that are left give
abbrev pub Gathers : {E X : Type 0} → (E → X → Type 0) → List E → List E → (X → Type 0) → (X → Type 0) → Type 0
Gathers {E} {X} G all left Old Now = (x : X) → (Now x ⊎ FromSome G left x) ↔ (Old x ⊎ FromSome G all x)

module _ {E X : Type 0} (G : E → X → Type 0) (all : List E) (Old : X → Type 0) where
  pub gathering_begins : (left : List E) (Now : X → Type 0) → left ≡ all → ((x : X) → Now x ↔ Old x) → Gathers G all left Old Now
  gathering_begins left Now is same x = (
    λ h. ⊎_elim (λ now. inl ((same x).0 now)) (λ from. inr (subst (λ es. FromSome G es x) is from)) h,
    λ h. ⊎_elim (λ old. inl ((same x).1 old)) (λ from. inr (subst (λ es. FromSome G es x) (sym is) from)) h,
  )

  -- one element more
  pub gathering_goes_on : (left rest : List E) (e : E) (Now Next : X → Type 0) → left ≡ e ∷ rest → ((x : X) → Next x ↔ (Now x ⊎ G e x)) → Gathers G all left Old Now → Gathers G all rest Old Next
  gathering_goes_on left rest e Now Next is more so_far x = (
    λ h. (so_far x).0 (⊎_elim
        (λ next. ⊎_elim (λ now. inl now) (λ given. inr (subst (λ es. FromSome G es x) (sym is) (e, contains_here e rest, given))) ((more x).0 next))
        (λ (f, there, given). inr (subst (λ es. FromSome G es x) (sym is) (f, contains_there e f rest there, given)))
        h),
    λ h. ⊎_elim
        (λ now. inl ((more x).1 (inl now)))
        (λ from.
        let (f, there, given) = subst (λ es. FromSome G es x) is from in
        ⊎_elim
        (λ same. inl ((more x).1 (inr (subst (λ y. G y x) (sym same) given))))
        (λ later. inr (f, later, given))
        (contains_cases e f rest there))
        ((so_far x).1 h),
  )

  pub gathering_ends : (left : List E) (Now : X → Type 0) → left ≡ [] → Gathers G all left Old Now → (x : X) → Now x ↔ (Old x ⊎ FromSome G all x)
  gathering_ends left Now none so_far x = (
    λ now. (so_far x).0 (inl now),
    λ h. ⊎_elim (λ now. now) (λ from. let (f, there, given) = subst (λ es. FromSome G es x) none from in absurd (contains_none f there)) ((so_far x).1 h),
  )
