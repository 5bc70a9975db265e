-- The first of some pairs under whose item a place stands.
use Rattle.std.proofs.Common.{◌≡◌, ℕ, ◌+◌, ◌<◌, ◌≤◌, List, length, get_or, slice_get, Some, None, refl, sym, ap, ◌∙◌, subst, ⊎_elim, Contains, arith}
use Rattle.std.proofs.lemmas.Option.{slice_get-get_or, slice_get_within}
use Rattle.site_recovery.proofs.Exact.{within_or_past}
use Rattle.trace_core.specs.declared.pairs.Pair.{Pair}
use Rattle.trace_core.proofs.NumberLists.{some_is}
use Rattle.report_core.specs.FirstPlaces.{IsOneOf}
use Rattle.report_core.specs.Leaving.{StandsUnder, UnderAt}
use Rattle.report_core.specs.Sources.{Index}
use Rattle.report_core.specs.TrailEvents.{IsFirstOrNone}
use Rattle.report_core.specs.declared.makers.EventPlace.{EventPlace}

-- a place isn't among others where none of them is it
pub isnt_among : (place : EventPlace) (places : List EventPlace) → IsFirstOrNone (IsOneOf (λ p. (place.site ≡ p.site) × (place.event ≡ p.event)) places) None → Contains places place → ⊥
isnt_among place places none there = none place.event (place, there, refl, (refl, refl))

module _ (index : Index) (place : EventPlace) (pairs : List Pair) (number : ℕ) (sooner : (k : ℕ) → UnderAt index place pairs k → number ≤ k) where
  module _ (below : number < length pairs) (c : Pair) (at : c ≡ get_or pairs number c) where
    stands : slice_get pairs number ≡ Some c
    stands = slice_get-get_or pairs number c below ∙ ap Some (sym at)

    pub under_first : StandsUnder index c place → IsFirstOrNone (UnderAt index place pairs) (Some number)
    under_first under = ((c, stands, under), sooner)

    pub under_later : (StandsUnder index c place → ⊥) → (k : ℕ) → UnderAt index place pairs k → number + 1 ≤ k
    under_later apart k (d, at', under) = ⊎_elim
        (λ before. omega (arith, before))
        (λ past.
        let here : k ≡ number = omega (arith, past, sooner k (d, at', under)) in
        let one : d ≡ c = some_is d c (sym at' ∙ ap (slice_get pairs) here ∙ stands) in
        absurd (apart (subst (λ p. StandsUnder index p place) one under)))
        (within_or_past number k)

  pub under_none : length pairs ≤ number → IsFirstOrNone (UnderAt index place pairs) None
  under_none past k (d, at, under) = omega (arith, past, sooner k (d, at, under), slice_get_within pairs k d at)
