-- The steps of a trail, place by place, and those that are shown of it.
use Rattle.std.proofs.Common.{◌≡◌, ℕ, zero, suc, ◌+◌, ◌-◌, ◌<◌, ◌≤◌, List, [], ◌∷◌, ◌++◌, Some, length, get_or, take, drop, slice_get, refl, sym, ap, ◌∙◌, subst, arith}
use Rattle.std.specs.List.{All, AllZip}
use Rattle.std.proofs.lemmas.List.{take_all}
use Rattle.std.proofs.lemmas.List.Elements.{All-more}
use Rattle.std.proofs.lemmas.Option.{slice_get-get_or}
use Rattle.trace_core.specs.Relations.{IsChain}
use Rattle.trace_core.specs.declared.pairs.Pair.{Pair}
use Rattle.trace_core.proofs.NumberLists.{some_is, none_is}
use Rattle.trace_core.proofs.Zips.{zip_more}
use Rattle.report_core.specs.TrailEvents.{or_no_pairs, pairs_shown, steps_of}
use Rattle.report_core.specs.declared.trail_events.ShownSteps.{ShownSteps}
use Rattle.report_core.specs.declared.trail_events.ShownSteps.TheVariants.{Each, First, Last}

-- one pair of a chain and the next
pub chain_step : (R : Pair → Pair → Type 0) (trail : List Pair) (k : ℕ) (p q : Pair) → IsChain R trail → slice_get trail k ≡ Some p → slice_get trail (suc k) ≡ Some q → R p q
chain_step R [] k p q chain at next = none_is p at
chain_step R (x ∷ []) k p q chain at next = none_is q next
chain_step R (x ∷ y ∷ rest) zero p q chain at next = subst (R p) (some_is y q next) (subst (λ z. R z y) (some_is x p at) chain.0)
chain_step R (x ∷ y ∷ rest) (suc k) p q chain at next = chain_step R (y ∷ rest) k p q chain.1 at next

-- a part of a chain is a chain
chain_begins : (R : Pair → Pair → Type 0) (trail : List Pair) → IsChain R trail → IsChain R (take 2 trail)
chain_begins R [] chain = tt
chain_begins R (x ∷ []) chain = tt
chain_begins R (x ∷ y ∷ rest) chain = (chain.0, tt)

chain_ends : (R : Pair → Pair → Type 0) (n : ℕ) (trail : List Pair) → IsChain R trail → IsChain R (drop n trail)
chain_ends R zero trail chain = chain
chain_ends R (suc n) [] chain = tt
chain_ends R (suc n) (x ∷ []) chain = chain_ends R n [] tt
chain_ends R (suc n) (x ∷ y ∷ rest) chain = chain_ends R n (y ∷ rest) chain.1

pub chain_shown : (R : Pair → Pair → Type 0) (shown : ShownSteps) (trail : List Pair) → IsChain R trail → IsChain R (pairs_shown shown trail)
chain_shown R Each trail chain = chain
chain_shown R First trail chain = chain_begins R trail chain
chain_shown R Last trail chain = chain_ends R (length trail - 2) trail chain

-- the pairs of the trail at a place
pub trail_there : (all : List (List Pair)) (place : ℕ) → place < length all → or_no_pairs (slice_get all place) ≡ get_or all place []
trail_there all place below = ap or_no_pairs (slice_get-get_or all place [] below)

-- the step at a place
step_at : (trail : List Pair) (k : ℕ) (p q : Pair) → slice_get trail k ≡ Some p → slice_get trail (suc k) ≡ Some q → (k < length (steps_of trail)) × ((p, q) ≡ get_or (steps_of trail) k (p, q))
step_at [] k p q at next = none_is p at
step_at (x ∷ []) k p q at next = none_is q next
step_at (x ∷ y ∷ rest) zero p q at next = (omega arith, (λ i. (sym (some_is x p at) i, sym (some_is y q next) i)))
step_at (x ∷ y ∷ rest) (suc k) p q at next =
    let later = step_at (y ∷ rest) k p q at next in
    (omega (arith, later.0), later.1)

steps_long : (trail : List Pair) → length (steps_of trail) ≡ length trail - 1
steps_long [] = refl
steps_long (x ∷ []) = refl
steps_long (x ∷ y ∷ rest) = omega (arith, steps_long (y ∷ rest))

module _ (pairs : List Pair) (place : ℕ) (some : 0 < place) where
  module _ (below : place < length pairs) (p q : Pair) (at : p ≡ get_or pairs (place - 1) p) (next : q ≡ get_or pairs place q) where
    stands : slice_get pairs (place - 1) ≡ Some p
    stands = slice_get-get_or pairs (place - 1) p (omega (arith, below)) ∙ ap Some (sym at)

    after : slice_get pairs (suc (place - 1)) ≡ Some q
    after =
        let is : suc (place - 1) ≡ place = omega (arith, some) in
        ap (slice_get pairs) is ∙ slice_get-get_or pairs place q below ∙ ap Some (sym next)

    -- a pair of a chain is related to the one behind it
    pub step_related : (R : Pair → Pair → Type 0) → IsChain R pairs → R p q
    step_related R chain = chain_step R pairs (place - 1) p q chain stands after

    -- one step more
    pub one_told : {B : Type 0} (T : Pair × Pair → B → Type 0) (told : List B) (x : B) → AllZip T (take (place - 1) (steps_of pairs)) told → T (p, q) x → AllZip T (take (place + 1 - 1) (steps_of pairs)) (told ++ x ∷ [])
    one_told T told x before tells =
        let one = step_at pairs (place - 1) p q stands after in
        let is : place - 1 + 1 ≡ place + 1 - 1 = omega (arith, some) in
        subst (λ n. AllZip T (take n (steps_of pairs)) (told ++ x ∷ [])) is
        (zip_more T (steps_of pairs) told (place - 1) (p, q) x one.0 one.1 before tells)

    -- what holds of each step holds of this one
    pub step_holds : (P : Pair × Pair → Type 0) → All P (steps_of pairs) → P (p, q)
    step_holds P all =
        let one = step_at pairs (place - 1) p q stands after in
        subst P (sym one.1) (all (place - 1) (p, q) one.0)

    -- one step more of which it holds
    pub one_holds : (P : Pair × Pair → Type 0) → All P (take (place - 1) (steps_of pairs)) → P (p, q) → All P (take (place + 1 - 1) (steps_of pairs))
    one_holds P before holds =
        let one = step_at pairs (place - 1) p q stands after in
        let is : place - 1 + 1 ≡ place + 1 - 1 = omega (arith, some) in
        subst (λ n. All P (take n (steps_of pairs))) is (All-more P (steps_of pairs) (place - 1) (p, q) one.0 before (subst P one.1 holds))

  pub all_hold : (P : Pair × Pair → Type 0) → length pairs ≤ place → All P (take (place - 1) (steps_of pairs)) → All P (steps_of pairs)
  all_hold P past before = subst (λ steps. All P steps) (take_all (place - 1) (steps_of pairs) (omega (arith, past, steps_long pairs))) before

  -- all of them
  pub all_told : {B : Type 0} (T : Pair × Pair → B → Type 0) (told : List B) → length pairs ≤ place → AllZip T (take (place - 1) (steps_of pairs)) told → AllZip T (steps_of pairs) told
  all_told T told past before = subst (λ steps. AllZip T steps told)
      (take_all (place - 1) (steps_of pairs) (omega (arith, past, steps_long pairs))) before
