-- Which of the pairs that are reached are missed.
use Rattle.std.proofs.Common.{◌≡◌, ◌↔◌, inl, inr, ◌≤◌, List, [], ◌∷◌, ◌++◌, true, length, refl, sym, subst, ⊎_elim, arith}
use mathlib.Core.Logic.{◌⊎◌}
use Rattle.std.specs.BTreeSet.{BTreeSet, Updates}
use Rattle.std.specs.List.{Contains}
use Rattle.trace_core.specs.declared.pairs.Pair.{Pair}
use Rattle.trace_core.specs.Gaps.{by_known, by_own}
use Rattle.trace_core.specs.Pairs.{pair_cmp}
use Rattle.trace_core.specs.Searches.{IsFound}
use Rattle.trace_core.proofs.ChainLaws.{reach_widens}
use Rattle.trace_core.proofs.GapSteps.{sent_by_wider, sent_or_not, wide_is_between, wide_reach_is_told}
use Rattle.trace_core.proofs.Members.{contains_none}
use Rattle.trace_core.proofs.PairOrder.{pairs_exact, pairs_total}
use Rattle.trace_core.proofs.SetMembers.{contains_pushed, found-insert}
use Rattle.trace_core.specs.Chains.{Related}
use Rattle.trace_core.specs.Gaps.{WideRelated}
use Rattle.trace_core.specs.Sites.{SiteEvents}
use Rattle.gap_core.specs.Adding.{AddsPairs, AddsToList, ByOne}
use Rattle.gap_core.specs.Laws.{NothingMissedMissesNothing}
use Rattle.gap_core.specs.Missed.{IsMissedPair, IsPairFound}
use Rattle.gap_core.proofs.Additions.{adds_alike, adds_nothing, adds_one}

-- ---- pairs that are added to a set, from the end of their list

-- those in the set and those of the rest are those in the old set and the pairs
abbrev pub AreParted : BTreeSet Pair → List Pair → BTreeSet Pair → List Pair → Type 0
AreParted old pairs set rest = (p : Pair) → (IsFound pair_cmp set p ⊎ Contains rest p) ↔ (IsFound pair_cmp old p ⊎ Contains pairs p)

pub parted_on : (old : BTreeSet Pair) (pairs rest less : List Pair) (set set' : BTreeSet Pair) (last : Pair) → rest ≡ less ++ last ∷ [] → Updates pair_cmp set set' last true
    → AreParted old pairs set rest → AreParted old pairs set' less
parted_on old pairs rest less set set' last is upd so p = (
  λ h. (so p).0 (⊎_elim
      (λ found. ⊎_elim
      (λ before. inl before)
      (λ same. inr (in_rest p (inr same)))
      ((found-insert pair_cmp pairs_total pairs_exact set set' last upd p).0 found))
      (λ there. inr (in_rest p (inl there)))
      h),
  λ h. ⊎_elim
      (λ before. inl ((found-insert pair_cmp pairs_total pairs_exact set set' last upd p).1 (inl before)))
      (λ there. ⊎_elim
      (λ less. inr less)
      (λ same. inl ((found-insert pair_cmp pairs_total pairs_exact set set' last upd p).1 (inr same)))
      ((contains_pushed less last p).0 (subst (λ ps. Contains ps p) is there)))
      ((so p).1 h),
)
  where
    in_rest : (p : Pair) → Contains less p ⊎ (last ≡ p) → Contains rest p
    in_rest p h = subst (λ ps. Contains ps p) (sym is) ((contains_pushed less last p).1 h)

pub all_parted : (old : BTreeSet Pair) (pairs rest : List Pair) (set : BTreeSet Pair) → length rest ≤ 0 → AreParted old pairs set rest → AddsPairs old pairs set
all_parted old pairs rest set none so p = (
  λ found. (so p).0 (inl found),
  λ there. ⊎_elim (λ found. found) (λ (k, below, at). absurd (omega (arith, none, below))) ((so p).1 there),
)

-- ---- those of some pairs that are in it

pub pair_found : (set : BTreeSet Pair) (pair copy : Pair) (old new : List Pair) → IsFound pair_cmp set pair → copy ≡ pair → new ≡ old ++ copy ∷ [] → AddsToList old new (IsPairFound set pair)
pair_found set pair copy old new found is pushed =
    adds_alike (Contains old) (Contains new) (λ p. copy ≡ p) (IsPairFound set pair) (λ p. (λ same. (found, subst (λ x. x ≡ p) is same), λ (_, same). subst (λ x. x ≡ p) (sym is) same))
    (adds_one old new copy pushed)

pub pair_not_found : (set : BTreeSet Pair) (pair : Pair) (old : List Pair) → (IsFound pair_cmp set pair → ⊥) → AddsToList old old (IsPairFound set pair)
pair_not_found set pair old none = adds_nothing (Contains old) (IsPairFound set pair) (λ p (found, same). none found)

pub all_pairs_found : (sites : List SiteEvents) (set : BTreeSet Pair) (missed pairs found : List Pair) → ((p : Pair) → IsFound pair_cmp set p ↔ Contains missed p)
    → ((p : Pair) → Contains missed p ↔ IsMissedPair sites p) → AddsToList [] found (ByOne pairs (IsPairFound set))
    → (p : Pair) → Contains found p ↔ (Contains pairs p × IsMissedPair sites p)
all_pairs_found sites set missed pairs found is_set are adds p = (
  λ h. ⊎_elim
      (λ none. absurd (contains_none p none))
      (λ (q, there, (in_set, same)). (subst (Contains pairs) same there, (are p).0 ((is_set p).0 (subst (IsFound pair_cmp set) same in_set))))
      ((adds p).0 h),
  λ (there, missing). (adds p).1 (inr (p, there, ((is_set p).1 ((are p).1 missing), refl))),
)

-- ---- the law

pub nothing_missed : NothingMissedMissesNothing
nothing_missed sites root none = (
  λ p. (
    λ wide. ⊎_elim
        (λ reached. reached)
        (λ m. absurd (none (record { site = m.site.me; item = m.item }) m.reached (record { site = m.site; there = m.there; number = refl; to = inl m.to; missed = m.missed })))
        ((wide_reach_is_told.0 sites root).0 p wide),
    reach_widens (Related sites) (WideRelated sites) (λ x y. (wide_is_between sites x y).0) root p,
  ),
  λ s item text there reached. (
    λ sent. ⊎_elim
        (λ told. told)
        (λ untold. absurd (none (record { site = s.me; item = item }) reached (record { site = s; there = there; number = refl; to = inr text; missed = record { elsewhere = tt; goes = sent; untold = untold } })))
        (sent_or_not s item (inr text)),
    sent_by_wider by_own (by_known sites) s (λ x y h. (0, h)) item (inr text),
  ),
)
