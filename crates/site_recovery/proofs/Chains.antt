-- Reach, and the quarantine of an ended recall.
use Rattle.std.proofs.Common.{◌≡◌, inl, inr, ℕ, List, [], ◌∷◌, refl, sym, subst}
use Rattle.frame_core.specs.Numbers.{Recall}
use Rattle.trace_core.specs.Spreads.{Inside}
use Rattle.trace_core.proofs.ChainLaws.{reaches_itself, reaches_step, reached_holds, reached_start, reached_step, reach_widens}
use Rattle.trace_core.proofs.Members.{contains_here, contains_cases, contains_none}
use Rattle.site_core.specs.Ways as ways
use Rattle.site_recovery.specs.Fit.{LeadsTo, Reached, NoRows, Fit}
use Rattle.site_recovery.specs.Looks.{World, Makes, Ships, Held}

-- where the sites captured the same, the same is made and shipped
module _ (V W : World) (same : (t : ℕ) → (W t).captured ≡ (V t).captured) where
  pub makes_now : (t : ℕ) (i j : List ℕ) → Makes V t i j → Makes W t i j
  makes_now t i j h = subst (λ c. Inside c i j) (sym (same t)) h

  pub makes_before : (t : ℕ) (i j : List ℕ) → Makes W t i j → Makes V t i j
  makes_before t i j h = subst (λ c. Inside c i j) (same t) h

  pub ships_now : (t : ℕ) (i : List ℕ) (u : ℕ) → Ships V t i u → Ships W t i u
  ships_now t i u h = subst (λ c. ways.ShipsTo (record (V t) { captured = c }) i u) (sym (same t)) h

  pub ships_before : (t : ℕ) (i : List ℕ) (u : ℕ) → Ships W t i u → Ships V t i u
  ships_before t i u h = subst (λ c. ways.ShipsTo (record (V t) { captured = c }) i u) (same t) h

-- what is reached stays reached where more is made and shipped
pub reached_more : (V W : World) → ((t : ℕ) (i j : List ℕ) → Makes V t i j → Makes W t i j) → ((t : ℕ) (i : List ℕ) (u : ℕ) → Ships V t i u → Ships W t i u)
    → (a : ℕ) (root : List ℕ) (s : ℕ) (i : List ℕ) → Reached V a root s i → Reached W a root s i
reached_more V W makes ships a root s i =
    reach_widens (LeadsTo V) (LeadsTo W) (λ p q h. elim h as (λ _. LeadsTo W p q) [
      | inl here ↦ inl (here.0, makes p.site p.item q.item here.1)
      | inr away ↦ inr (ships p.site p.item q.site away.0, away.1)
    ]) (record { site = a; item = root }) (record { site = s; item = i })

-- a shipment of what is reached, and the spread of it, are reached
pub reached_shipped : (W : World) (a : ℕ) (root : List ℕ) (s : ℕ) (i : List ℕ) (t : ℕ) → Reached W a root s i → Ships W s i t → Reached W a root t i
reached_shipped W a root s i t h ships = reaches_step (LeadsTo W) (record { site = a; item = root }) (record { site = s; item = i }) (record { site = t; item = i }) h (inr (ships, refl))

pub reached_spread : (W : World) (a : ℕ) (root : List ℕ) (s : ℕ) (i j : List ℕ) → Reached W a root s i → ways.Spreads (W s) i j → Reached W a root s j
reached_spread W a root s i j h (x, given, chain) =
    elim (contains_cases i x [] given) as (λ _. Reached W a root s j) [
      | inl same ↦ reached_holds (Inside (W s).captured) (λ k. Reached W a root s k)
          (λ k l at made. reaches_step (LeadsTo W) (record { site = a; item = root }) (record { site = s; item = k }) (record { site = s; item = l }) at (inl (refl, made)))
          x j chain (subst (λ z. Reached W a root s z) same h)
      | inr other ↦ absurd (contains_none x other)
    ]

pub reaches_root : (W : World) (s : ℕ) (i : List ℕ) → Reached W s i s i
reaches_root W s i = reaches_itself (LeadsTo W) (record { site = s; item = i })

-- an item is in its own spread, and so is what is made of what is in it
pub spreads_itself : (W : World) (s : ℕ) (i : List ℕ) → ways.Spreads (W s) i i
spreads_itself W s i = reached_start (Inside (W s).captured) (i ∷ []) i (contains_here i [])

pub spreads_further : (W : World) (s : ℕ) (i j k : List ℕ) → ways.Spreads (W s) i j → Makes W s j k → ways.Spreads (W s) i k
spreads_further W s i j k h made = reached_step (Inside (W s).captured) (i ∷ []) j k h made

-- what is reached from a root that is held is held, while no row of the recall stands
pub held_from_chain : (W : World) → Fit W → (r : Recall) → ((s : ℕ) → NoRows W s r) → (root : List ℕ) → Held W r.site r root → (s : ℕ) (i : List ℕ) → Reached W r.site root s i → Held W s r i
held_from_chain W f r none root h s i chain =
    reached_holds (LeadsTo W) (λ p. Held W p.site r p.item)
    (λ p q at leads. elim leads as (λ _. Held W q.site r q.item) [
      | inl here ↦ subst (λ z. Held W z r q.item) here.0 (f.closed p.site r p.item q.item at here.1)
      | inr away ↦ elim ((f.told q.site).told p.site r p.item at away.0) as (λ _. Held W q.site r q.item) [
        | inl told ↦ absurd (none p.site told.0 _ told.1 refl)
        | inr there ↦ subst (λ z. Held W q.site r z) away.1 there
      ]
    ])
    (record { site = r.site; item = root }) (record { site = s; item = i }) chain h
