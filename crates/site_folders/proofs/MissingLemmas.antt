-- what recalls miss
use Rattle.std.proofs.Common.{◌≡◌, ◌↔◌, ◌==◌, true, List, [], ◌∷◌, length, refl, sym, subst, arith}
use Rattle.std.specs.List.{Contains}
use Rattle.std.specs.List.Sorted.{IsStrictlySortedBy}
use Rattle.std.proofs.lemmas.Bool.{eqb-true}
use Rattle.gap_core.specs.Missed.{IsMissedPair}
use Rattle.site_core.specs.Records.{Record}
use Rattle.site_recovery.specs.Laws.{captured_of}
use Rattle.trace_core.specs.Chains.{Related}
use Rattle.trace_core.specs.Pairs.{IsStrictlyAscending}
use Rattle.trace_core.specs.Relations.{ReachedFrom}
use Rattle.trace_core.specs.Sites.{SiteEvents}
use Rattle.trace_core.specs.declared.pairs.Pair.{Pair}
use Rattle.trace_core.proofs.Members.{contains_none}
use Rattle.site_folders.specs.Missing.{AreMissedFrom}

-- no pairs ascend
none_ascend : IsStrictlyAscending []
unfolding IsStrictlySortedBy
none_ascend = tt

empty_of : {X : Type 0} (xs : List X) → length xs ≡ 0 → xs ≡ []
empty_of [] none = refl
empty_of (x ∷ xs) none = absurd (omega (arith, none))

module _ (records : List Record) (roots missed : List Pair) where
  -- without a root nothing is
  pub none_missed : true ≡ (length roots == 0) → missed ≡ [] → AreMissedFrom records roots missed
  none_missed none empty = record {
    ascending = subst IsStrictlyAscending (sym empty) none_ascend;
    exact = λ p. (
      λ h. absurd (contains_none p (subst (λ ps. Contains ps p) empty h)),
      λ (reached, m). let (x, there, r) = reached in absurd (contains_none x (subst (λ ps. Contains ps x) (empty_of roots (eqb-true (length roots) 0 (sym none))) there)),
    );
  }

  -- of what they reach, what is missed
  pub missed_so : (sites : List SiteEvents) (pairs reached : List Pair) → sites ≡ captured_of records → pairs ≡ reached → IsStrictlyAscending missed
      → ((p : Pair) → Contains missed p ↔ (Contains pairs p × IsMissedPair sites p)) → ((p : Pair) → Contains reached p ↔ ReachedFrom (Related sites) roots p) → AreMissedFrom records roots missed
  missed_so sites pairs reached same is ascending exact reach = record {
    ascending = ascending;
    exact = λ p. (
      λ h. let (there, m) = (exact p).0 h in (
        subst (λ ss. ReachedFrom (Related ss) roots p) same ((reach p).0 (subst (λ ps. Contains ps p) is there)),
        subst (λ ss. IsMissedPair ss p) same m,
      ),
      λ (from, m). (exact p).1 (
        subst (λ ps. Contains ps p) (sym is) ((reach p).1 (subst (λ ss. ReachedFrom (Related ss) roots p) (sym same) from)),
        subst (λ ss. IsMissedPair ss p) (sym same) m,
      ),
    );
  }
