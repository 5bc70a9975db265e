-- What is reached and isn't told.
use Rattle.std.proofs.Common.{◌≡◌, ◌↔◌, ◌⊎◌, List, [], sym, subst, ⊎_elim, inr, refl}
use Rattle.std.specs.BTreeSet.{BTreeSet}
use Rattle.std.specs.List.{Contains}
use Rattle.std.proofs.lemmas.Map.Views.{btree_set_contains_iff}
use Rattle.trace_core.specs.declared.pairs.Pair.{Pair}
use Rattle.trace_core.specs.Pairs.{pair_cmp}
use Rattle.trace_core.specs.Searches.{IsFound}
use Rattle.trace_core.proofs.Gathered.{FromSome}
use Rattle.trace_core.proofs.Members.{contains_none}
use Rattle.trace_core.proofs.PairOrder.{pairs_exact, pairs_total}
use Rattle.gap_core.specs.Misses.{IsBeyond}
use Rattle.gap_core.specs.declared.untold.Reached.{Reached}

-- a pair that isn't in the set
abbrev pub IsNotIn : BTreeSet Pair → Pair → Pair → Type 0
IsNotIn told pair p = (IsFound pair_cmp told pair → ⊥) × (pair ≡ p)

pub all_beyond : (reached : Reached) (found ordered : List Pair) → ((p : Pair) → Contains found p ↔ (Contains [] p ⊎ FromSome (IsNotIn reached.told) reached.wide.keys p))
    → ((p : Pair) → Contains ordered p ↔ Contains found p) → (p : Pair) → Contains ordered p ↔ IsBeyond reached p
all_beyond reached found ordered adds same p = (
  λ h. ⊎_elim
      (λ none. absurd (contains_none p none))
      (λ (q, there, (untold, is)). (subst (IsFound pair_cmp reached.wide) is (is_key q there), λ told. untold (subst (IsFound pair_cmp reached.told) (sym is) told)))
      ((adds p).0 ((same p).0 h)),
  λ (there, untold). (same p).1 ((adds p).1 (inr (p, (btree_set_contains_iff pairs_total pairs_exact reached.wide p).0 there, (untold, refl)))),
)
  where
    is_key : (q : Pair) → Contains reached.wide.keys q → IsFound pair_cmp reached.wide q
    is_key q there = (btree_set_contains_iff pairs_total pairs_exact reached.wide q).1 there
