-- What a start and a message that is taken share keeps what is quarantined closed and announced, and keeps rows just.
use Rattle.std.proofs.Common.{◌≡◌, ◌⊎◌, inl, inr, ℕ, ◌<◌, true, false, List, refl, sym, ◌∙◌, subst, lt_of_lt_of_le}
use mathlib.Core.Bool.{false≢true}
use Rattle.frame_core.specs.Numbers.{Recall}
use Rattle.site_core.specs.Quarantines.{held}
use Rattle.site_recovery.specs.Fit.{Fit, IsPassedOn, IsJust, IsClosedAt, ShipmentsAreTold, RowsAreJust, RowsAreBelow}
use Rattle.site_recovery.specs.Looks.{World, Makes, Ships, Held, next_message}
use Rattle.site_recovery.proofs.Chains.{makes_before, ships_now, ships_before, spreads_further}
use Rattle.site_recovery.proofs.Changes.{Spreads}

-- an item is held or not
pub held_or_not : (W : World) (s : ℕ) (r : Recall) (i : List ℕ) → Held W s r i ⊎ (Held W s r i → ⊥)
held_or_not W s r i = elim (held (W s).quarantine r i) as (λ b. held (W s).quarantine r i ≡ b → Held W s r i ⊎ (Held W s r i → ⊥)) [
  | true ↦ λ is. inl is
  | false ↦ λ is. inr (λ h. false≢true (sym is ∙ h))
] refl

module _ (V W : World) (s : ℕ) (r : Recall) (item : List ℕ) (f : Fit V) (c : Spreads V W s r item) where
  pub spreads_closed : (t : ℕ) → IsClosedAt W t
  spreads_closed t q i j h made =
      let before = makes_before V W c.captured t i j made in
      elim (c.held_origin t q i h) as (λ _. Held W t q j) [
        | inl old ↦ c.held_kept t q j (f.closed t q i j old before)
        | inr new ↦ rw (new.0, new.1) (c.held_spread j (spreads_further V s item i j new.2 (subst (λ u. Makes V u i j) new.0 before)))
      ]

  pub spreads_told : (u : ℕ) → ShipmentsAreTold W u
  spreads_told u t q i h ships =
      let before = ships_before V W c.captured t i u ships in
      elim (held_or_not V t q i) as (λ _. IsPassedOn W t u q i) [
        | inl old ↦ elim ((f.told u).told t q i old before) as (λ _. IsPassedOn W t u q i) [
          | inl told ↦ inl (told.0, c.row_kept t told.0 _ ((f.numbers_are_below t).rows told.0 _ told.1) told.1)
          | inr there ↦ inr (c.held_kept u q i there)
        ]
        | inr new ↦ elim (c.held_origin t q i h) as (λ _. IsPassedOn W t u q i) [
          | inl old ↦ absurd (new old)
          | inr here ↦ rw (here.0, here.1) (inl (c.row_told i u
              (subst (λ z. Held W s z i) here.1 (subst (λ z. Held W z q i) here.0 h))
              (λ old. new (subst (λ z. Held V t z i) (sym here.1) (subst (λ z. Held V z r i) (sym here.0) old)))
              (subst (λ z. Ships V z i u) here.0 before)))
        ]
      ]

  pub spreads_rows : (t : ℕ) → RowsAreJust W t
  spreads_rows t n x e = elim (c.row_origin t n x e) as (λ _. IsJust (W t) x) [
    | inl old ↦ let just = (f.justified t).rows n x old in (c.held_kept t x.recall x.item just.0, ships_now V W c.captured t x.item x.dest just.1)
    | inr new ↦ subst (λ z. IsJust (W z) x) (sym new.0) (subst (λ z. Held W s z x.item) (sym new.1.recall) new.1.held, new.1.shipped)
  ]

  pub spreads_rows_below : (t : ℕ) → RowsAreBelow W t
  spreads_rows_below t n x e = elim (c.row_origin t n x e) as (λ _. n < next_message W t) [
    | inl old ↦ lt_of_lt_of_le ((f.numbers_are_below t).rows n x old) (c.next_up t)
    | inr new ↦ subst (λ z. n < next_message W z) (sym new.0) new.1.below
  ]
