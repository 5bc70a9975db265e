-- The first of some places, as it is found.
use Rattle.std.proofs.Common.{◌≡◌, ◌↔◌, inl, inr, ℕ, ◌+◌, ◌<◌, ◌≤◌, List, [], ◌∷◌, length, take, get_or, Option, Some, None, refl, sym, ap, ◌∙◌, subst, ⊎_elim, arith}
use mathlib.Core.Logic.{◌⊎◌}
use Rattle.std.proofs.lemmas.List.{take_all}
use Rattle.trace_core.proofs.Members.{contains_none}
use Rattle.trace_core.proofs.SetMembers.{contains_more}
use Rattle.report_core.specs.TrailEvents.{IsFirst, IsFirstOrNone}
use Rattle.report_core.specs.FirstPlaces.{IsOneOf}
use Rattle.report_core.specs.declared.makers.EventPlace.{EventPlace}

module _ (H : EventPlace → Type 0) where
  -- of no places
  pub none_yet : (places : List EventPlace) → IsFirstOrNone (IsOneOf H (take 0 places)) None
  none_yet [] k (p, there, at, holds) = contains_none p there
  none_yet (q ∷ places) k (p, there, at, holds) = contains_none p there

  module _ (places : List EventPlace) (i : ℕ) where
    module _ (p : EventPlace) (below : i < length places) (at : p ≡ get_or places i p) where
      later : (k : ℕ) → IsOneOf H (take i places) k → IsOneOf H (take (i + 1) places) k
      later k (q, there, event, holds) = (q, (contains_more places i p below at q).1 (inl there), event, holds)

      sooner : (k : ℕ) → IsOneOf H (take (i + 1) places) k → IsOneOf H (take i places) k ⊎ ((p.event ≡ k) × H p)
      sooner k (q, there, event, holds) = ⊎_elim
          (λ earlier. inl (q, earlier, event, holds))
          (λ same. inr (ap (λ (r : EventPlace). r.event) same ∙ event, subst H (sym same) holds))
          ((contains_more places i p below at q).0 there)

      not_before : (first : Option ℕ) (low k : ℕ) → IsFirstOrNone (IsOneOf H (take i places)) first → ((n : ℕ) → first ≡ Some n → low ≤ n) → IsOneOf H (take i places) k → low ≤ k
      not_before None low k before under one = absurd (before k one)
      not_before (Some n) low k before under one = omega (arith, under n refl, before.1 k one)

      -- it holds at one place more
      pub one_passes : (first : Option ℕ) (low : ℕ) → H p → low ≤ p.event → ((n : ℕ) → first ≡ Some n → low ≤ n) → (low ≡ p.event) ⊎ (first ≡ Some low)
          → IsFirstOrNone (IsOneOf H (take i places)) first → IsFirstOrNone (IsOneOf H (take (i + 1) places)) (Some low)
      one_passes first low holds most under one before = (
        ⊎_elim
            (λ last. (p, (contains_more places i p below at p).1 (inr refl), sym last, holds))
            (λ same.
            let own : IsFirst (IsOneOf H (take i places)) low = subst (λ (o : Option ℕ). IsFirstOrNone (IsOneOf H (take i places)) o) same before in
            later low own.0)
            one,
        λ k is. ⊎_elim
            (λ earlier. not_before first low k before under earlier)
            (λ (event, own). omega (arith, most, event))
            (sooner k is),
      )

      -- it doesn't
      pub one_fails : (first : Option ℕ) → (H p → ⊥) → IsFirstOrNone (IsOneOf H (take i places)) first → IsFirstOrNone (IsOneOf H (take (i + 1) places)) first
      one_fails None fails before = λ k is. ⊎_elim (λ earlier. before k earlier) (λ (event, own). fails own) (sooner k is)
      one_fails (Some n) fails before = (
        later n before.0,
        λ k is. ⊎_elim (λ earlier. before.1 k earlier) (λ (event, own). absurd (fails own)) (sooner k is),
      )

    -- all are gone through
    pub all_passed : (first : Option ℕ) → length places ≤ i → IsFirstOrNone (IsOneOf H (take i places)) first → IsFirstOrNone (IsOneOf H places) first
    all_passed first past before = subst (λ (ps : List EventPlace). IsFirstOrNone (IsOneOf H ps) first) (take_all i places past) before

-- told in other words
pub first_alike : (P Q : ℕ → Type 0) → ((n : ℕ) → P n ↔ Q n) → (n : ℕ) → IsFirst P n → IsFirst Q n
first_alike P Q alike n (holds, least) = ((alike n).0 holds, λ k q. least k ((alike k).1 q))
