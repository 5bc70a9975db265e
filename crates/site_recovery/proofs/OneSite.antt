-- One site's record changes: what that says of all sites.
use Rattle.std.proofs.Common.{◌≡◌, ◌≢◌, ◌⊎◌, inl, inr, ℕ, ◌<◌, List, length, set, true, false, refl, sym, ap, ◌∙◌, subst, eqb, eqb-true, eq-eqb, true≢false}
use Rattle.std.proofs.lemmas.List.{get_or-set_same, get_or-set_other}
use Rattle.site_core.specs.Records.{Record, fresh}
use Rattle.site_recovery.specs.Looks.{World, world_of}

-- two places are one or not
pub one_place : (t s : ℕ) → (t ≡ s) ⊎ (t ≢ s)
one_place t s = elim (eqb t s) as (λ b. eqb t s ≡ b → (t ≡ s) ⊎ (t ≢ s)) [
  | true ↦ λ e. inl (eqb-true t s e)
  | false ↦ λ e. inr (λ same. true≢false (sym (eq-eqb t s same) ∙ e))
] refl

-- elsewhere the records are the same
abbrev pub SameElsewhere : World → World → ℕ → Type 0
SameElsewhere V W s = (t : ℕ) → t ≢ s → W t ≡ V t

module _ (V W : World) (s : ℕ) (elsewhere : SameElsewhere V W s) where
  -- what is kept at the site is kept everywhere
  pub kept : (P : Record → Type 0) → (P (V s) → P (W s)) → (t : ℕ) → P (V t) → P (W t)
  kept P at t h = elim (one_place t s) as (λ _. P (W t)) [
    | inl here ↦ subst (λ z. P (W z)) (sym here) (at (subst (λ z. P (V z)) here h))
    | inr away ↦ subst P (sym (elsewhere t away)) h
  ]

  -- or is kept but for what happens at the site
  pub kept_or : (P : Record → Type 0) (N : Type 0) → (P (V s) → P (W s) ⊎ N) → (t : ℕ) → P (V t) → P (W t) ⊎ ((t ≡ s) × N)
  kept_or P N at t h = elim (one_place t s) as (λ _. P (W t) ⊎ ((t ≡ s) × N)) [
    | inl here ↦ elim (at (subst (λ z. P (V z)) here h)) as (λ _. P (W t) ⊎ ((t ≡ s) × N)) [
      | inl stays ↦ inl (subst (λ z. P (W z)) (sym here) stays)
      | inr gone ↦ inr (here, gone)
    ]
    | inr away ↦ inl (subst P (sym (elsewhere t away)) h)
  ]

  -- what is found was found before, or is new at the site
  pub origin : (P : Record → Type 0) (N : Type 0) → (P (W s) → P (V s) ⊎ N) → (t : ℕ) → P (W t) → P (V t) ⊎ ((t ≡ s) × N)
  origin P N at t h = elim (one_place t s) as (λ _. P (V t) ⊎ ((t ≡ s) × N)) [
    | inl here ↦ elim (at (subst (λ z. P (W z)) here h)) as (λ _. P (V t) ⊎ ((t ≡ s) × N)) [
      | inl old ↦ inl (subst (λ z. P (V z)) (sym here) old)
      | inr new ↦ inr (here, new)
    ]
    | inr away ↦ inl (subst P (elsewhere t away) h)
  ]

  -- what the site keeps as it was is everywhere as it was
  pub same : {X : Type 0} (f : Record → X) → f (W s) ≡ f (V s) → (t : ℕ) → f (W t) ≡ f (V t)
  same f at t = elim (one_place t s) as (λ _. f (W t) ≡ f (V t)) [
    | inl here ↦ ap (λ z. f (W z)) here ∙ at ∙ ap (λ z. f (V z)) (sym here)
    | inr away ↦ ap f (elsewhere t away)
  ]

  -- a relation that each record is in with itself
  pub related : (R : Record → Record → Type 0) → ((x : Record) → R x x) → R (V s) (W s) → (t : ℕ) → R (V t) (W t)
  related R itself at t = elim (one_place t s) as (λ _. R (V t) (W t)) [
    | inl here ↦ subst (λ z. R (V z) (W z)) (sym here) at
    | inr away ↦ subst (λ z. R (V t) z) (sym (elsewhere t away)) (itself (V t))
  ]

-- a record of a list that is set
pub set_here : (records : List Record) (s : ℕ) (new : Record) → s < length records → world_of (set records s new) s ≡ new
set_here records s new below = get_or-set_same records s new (fresh _ s) below

pub set_elsewhere : (records : List Record) (s : ℕ) (new : Record) → SameElsewhere (world_of records) (world_of (set records s new)) s
set_elsewhere records s new t away = get_or-set_other records s t new (fresh _ t) away
