-- What is gathered from each element of a list, one after another, beside what was there.
use Rattle.std.proofs.Common.{◌≡◌, ◌⊎◌, ◌↔◌, inl, inr, List, [], ◌∷◌, sym, subst}
use Rattle.std.specs.List.{Contains}
use Rattle.trace_core.proofs.Members.{contains_cases, contains_here, contains_none, contains_there}

module _ {X F : Type 0} (G : X → F → Type 0) where
  -- what each element gives has come, but for those that are left
  pub record Gathered (whole left : List X) (old new : F → Type 0) : Type 0 where
    pub came : (x : X) → Contains whole x → ((f : F) → G x f → new f) ⊎ Contains left x
    pub kept : (f : F) → old f → new f
    pub only : (f : F) → new f → old f ⊎ ((x : X) × Contains whole x × G x f)
    pub within : (x : X) → Contains left x → Contains whole x

  pub none_gathered : (whole left : List X) (old : F → Type 0) → left ≡ whole → Gathered whole left old old
  none_gathered whole left old same = record {
    came = λ x at. inr (subst (λ xs. Contains xs x) (sym same) at);
    kept = λ f h. h;
    only = λ f h. inl h;
    within = λ x at. subst (λ xs. Contains xs x) same at;
  }

  pub one_gathered : (whole before left : List X) (x : X) (old mid new : F → Type 0) → before ≡ x ∷ left → ((f : F) → new f ↔ (G x f ⊎ mid f)) → Gathered whole before old mid → Gathered whole left old new
  one_gathered whole before left x old mid new next adds so_far = record {
    came = λ y at. elim (so_far.came y at) as (λ _. ((f : F) → G y f → new f) ⊎ Contains left y) [
      | inl came ↦ inl (λ f g. (adds f).1 (inr (came f g)))
      | inr waits ↦ elim (contains_cases x y left (subst (λ xs. Contains xs y) next waits)) as (λ _. ((f : F) → G y f → new f) ⊎ Contains left y) [
        | inl same ↦ inl (λ f g. (adds f).1 (inl (subst (λ z. G z f) (sym same) g)))
        | inr later ↦ inr later
      ]
    ];
    kept = λ f h. (adds f).1 (inr (so_far.kept f h));
    only = λ f h. elim ((adds f).0 h) as (λ _. old f ⊎ ((y : X) × Contains whole y × G y f)) [
      | inl now ↦ inr (x, so_far.within x (subst (λ xs. Contains xs x) (sym next) (contains_here x left)), now)
      | inr was ↦ so_far.only f was
    ];
    within = λ y at. so_far.within y (subst (λ xs. Contains xs y) (sym next) (contains_there x y left at));
  }

  pub all_gathered : (whole left : List X) (old new : F → Type 0) → left ≡ [] → Gathered whole left old new → (f : F) → new f ↔ (((x : X) × Contains whole x × G x f) ⊎ old f)
  all_gathered whole left old new none so_far f = (
    λ h. elim (so_far.only f h) as (λ _. ((x : X) × Contains whole x × G x f) ⊎ old f) [ inl was ↦ inr was | inr came ↦ inl came ],
    λ h. elim h as (λ _. new f) [
      | inl (x, at, g) ↦ elim (so_far.came x at) as (λ _. new f) [
        | inl came ↦ came f g
        | inr waits ↦ absurd (contains_none x (subst (λ xs. Contains xs x) none waits))
      ]
      | inr was ↦ so_far.kept f was
    ],
  )
