-- Shipments between the sites by which items are missed, site by site.
use Rattle.std.proofs.Common.{◌≡◌, ◌↔◌, inr, ℕ, ◌<◌, ◌≤◌, ◌∙◌, List, [], Some, length, slice_get, refl, sym, ap, subst, ⊎_elim, arith}
use mathlib.Core.Logic.{inl}
use Rattle.std.specs.List.{Contains}
use Rattle.std.proofs.lemmas.Option.{slice_get_within}
use Rattle.trace_core.specs.declared.pairs.Pair.{Pair}
use Rattle.trace_core.specs.Gaps.{IsMissed, by_known}
use Rattle.trace_core.specs.Sites.{SiteEvents}
use Rattle.trace_core.proofs.Members.{contains_none}
use Rattle.trace_core.proofs.NumberLists.{some_is}
use Rattle.gap_core.specs.Adding.{AddsToList, ByOne}
use Rattle.gap_core.specs.GapItems.{IsSentBy}
use Rattle.gap_core.specs.Missed.{IsMissedBy, IsMissedIn}
use Rattle.gap_core.specs.MissedSteps.{IsMissedStep, IsMissedStepAt, IsMissedStepTo, IsStepFrom}
use Rattle.gap_core.specs.Shipments.{ArePlacesTo, GoesAt}
use Rattle.gap_core.specs.Sources.{AreKnown, AreOwn, Index}
use Rattle.gap_core.specs.declared.missed_steps.MissedStep.{MissedStep}
use Rattle.gap_core.proofs.Additions.{Before, adds_alike, adds_nothing}
use Rattle.gap_core.proofs.GapSteps.{sends_known, sends_own}
use Rattle.gap_core.proofs.MissedSteps.{batch_missed}
use Rattle.gap_core.proofs.Notings.{placed, stands_in}
use Rattle.gap_core.proofs.ShippedItems.{ship_goes}

-- ---- steps from pairs

pub steps_from : (pairs : List Pair) (to : ℕ) (old new : List MissedStep) → AddsToList old new (ByOne pairs (λ (p : Pair). λ (m : MissedStep). record { from = p; to = to } ≡ m)) → AddsToList old new (IsStepFrom pairs to)
steps_from pairs to old new = adds_alike (Contains old) (Contains new) (ByOne pairs (λ (p : Pair). λ (m : MissedStep). record { from = p; to = to } ≡ m)) (IsStepFrom pairs to)
    (λ m. (
      λ (p, there, same). (subst (Contains pairs) (ap (λ (x : MissedStep). x.from) same) there, ap (λ (x : MissedStep). x.to) same),
      λ (there, same). (m.from, there, λ k. record { from = m.from; to = same k }),
    ))

module _ (sites : List SiteEvents) (at : ℕ) (s : SiteEvents) (so : slice_get sites at ≡ Some s) where
  -- nothing is missed to the site itself
  pub own_steps : (to : ℕ) (old : List MissedStep) → to ≡ s.me → AddsToList old old (IsMissedStepTo sites at to)
  own_steps to old own = adds_nothing (Contains old) (IsMissedStepTo sites at to)
      (λ m (same, it). it.missed.elsewhere (sym same ∙ own ∙ ap (λ (z : SiteEvents). z.me) (sym (some_is it.site s (sym it.there ∙ so)))))

  -- all numbers of sites
  pub all_numbers : ((k t : ℕ) → GoesAt s.events (inl t) k → t < 16) → (n : ℕ) (old new : List MissedStep) → 16 ≤ n
      → AddsToList old new (Before n (IsMissedStepTo sites at)) → AddsToList old new (IsMissedStepAt sites at)
  all_numbers low n old new past = adds_alike (Contains old) (Contains new) (Before n (IsMissedStepTo sites at)) (IsMissedStepAt sites at)
      (λ m. (
        λ (t, below, (same, it)). it,
        λ it. (m.to, within m it, (refl, it)),
      ))
    where
      within : (m : MissedStep) → IsMissedStepAt sites at m → m.to < n
      within m it =
          let (carrier, ships, chain) = it.missed.goes in
          let (k, goes) = ship_goes it.site.events (inl m.to) carrier ships in
          let below = low k m.to (subst (λ (z : SiteEvents). GoesAt z.events (inl m.to) k) (some_is it.site s (sym it.there ∙ so)) goes) in
          omega (arith, below, past)

  module _ (own known : Index) (are_own : AreOwn sites own) (are_known : AreKnown sites known) (to : ℕ) (other : to ≡ s.me → ⊥) (places : List ℕ) (are : ArePlacesTo s.events (inl to) places) where
    -- what the shipments at those places miss is missed to the site
    missed_there : (p : Pair) → IsMissedBy sites own known at places p → (number : s.me ≡ p.site) × IsMissed (by_known sites) s p.item (inl to)
    missed_there p b = (
      sym (ap (λ (z : SiteEvents). z.me) (some_is b.site s (sym b.there ∙ so))) ∙ b.number,
      record {
        elsewhere = other;
        goes = (sends_known sites own known are_own are_known at s so (inl to) places are p.item).0 b.sent;
        untold = λ told. b.untold ((sends_own sites own known are_own are_known at s so (inl to) places are p.item).1 told);
      },
    )

    there_missed : (p : Pair) → s.me ≡ p.site → IsMissed (by_known sites) s p.item (inl to) → IsMissedBy sites own known at places p
    there_missed p number missed = record {
      site = s;
      there = so;
      number = number;
      sent = (sends_known sites own known are_own are_known at s so (inl to) places are p.item).1 missed.goes;
      untold = λ told. missed.untold ((sends_own sites own known are_own are_known at s so (inl to) places are p.item).0 told);
    }

    pub steps_to : (told sent : List (List ℕ)) → ((i : List ℕ) → Contains told i ↔ IsSentBy sites own at places i) → ((i : List ℕ) → Contains sent i ↔ IsSentBy sites known at places i)
        → (missed : List Pair) → AddsToList [] missed (λ p. Contains sent p.item × IsMissedIn sites at told p.item p) → (old new : List MissedStep) → AddsToList old new (IsStepFrom missed to)
        → AddsToList old new (IsMissedStepTo sites at to)
    steps_to told sent tell send missed adds old new = adds_alike (Contains old) (Contains new) (IsStepFrom missed to) (IsMissedStepTo sites at to)
        (λ m. (
          λ (there, same).
              let (number, it) = missed_there m.from (⊎_elim (λ none. absurd (contains_none m.from none)) (λ b. b) ((by m.from).0 there)) in
              (same, record { site = s; there = so; number = number; missed = subst (λ t. IsMissed (by_known sites) s m.from.item (inl t)) same it }),
          λ (same, it).
              let one : it.site ≡ s = some_is it.site s (sym it.there ∙ so) in
              let moved : IsMissed (by_known sites) s m.from.item (inl m.to) = subst (λ z. IsMissed (by_known sites) z m.from.item (inl m.to)) one it.missed in
              ((by m.from).1 (inr (there_missed m.from (sym (ap (λ (z : SiteEvents). z.me) one) ∙ it.number) (subst (λ t. IsMissed (by_known sites) s m.from.item (inl t)) (sym same) moved))), same),
        ))
      where
        by : AddsToList [] missed (IsMissedBy sites own known at places)
        by = batch_missed sites own known at places told sent [] missed tell send adds

-- all sites
pub all_steps : (sites : List SiteEvents) (n : ℕ) (steps : List MissedStep) → length sites ≤ n → AddsToList [] steps (Before n (IsMissedStepAt sites))
    → (m : MissedStep) → Contains steps m ↔ IsMissedStep sites m
all_steps sites n steps past adds m = (
  λ h. ⊎_elim
      (λ none. absurd (contains_none m none))
      (λ (at, below, it). record { site = it.site; there = stands_in sites at it.site it.there; number = it.number; missed = it.missed })
      ((adds m).0 h),
  λ it.
      let (k, so) = placed sites it.site it.there in
      (adds m).1 (inr (k, within k (slice_get_within sites k it.site so), record { site = it.site; there = so; number = it.number; missed = it.missed })),
)
  where
    within : (k : ℕ) → k < length sites → k < n
    within k below = omega (arith, below, past)
