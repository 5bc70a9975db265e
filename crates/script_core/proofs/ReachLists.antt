-- what a pair reaches is a list
use Rattle.std.proofs.Common.{◌≡◌, ℕ, zero, suc, ◌≤◌, Bool, true, false, ◌&&◌, ◌==◌, List, [], ◌∷◌, ◌++◌, length, length-append, refl, sym, ap, ◌∙◌, subst, arith, All, inl, inr, ⊎_elim}
use mathlib.Core.Logic.{◌⊎◌}
use Rattle.std.specs.Prelude.{Contains, ◌↔◌}
use Rattle.std.specs.List.{list_any}
use Rattle.std.proofs.lemmas.Bool.{and_parts, and_from, eqb-true, eq-eqb}
use Rattle.std.proofs.lemmas.List.Elements.{All-nil, All-cons, All-contains, Contains-append_left, Contains-append_right, Contains-append_cases}
use Rattle.std.proofs.lemmas.Map.Views.{All-insert_key}
use Rattle.trace_core.specs.Chains.{Related}
use Rattle.trace_core.proofs.HasTargets.{has_targets}
use Rattle.trace_core.proofs.Members.{contains_cases, contains_none, list_any_witness, list_any_member}
use Rattle.trace_core.specs.PairTests.{is_related}
use Rattle.trace_core.specs.Pairs.{pair_cmp, IsStrictlyAscending}
use Rattle.trace_core.proofs.PairTestsDecide.{related_decides}
use Rattle.trace_core.specs.Relations.{Reaches}
use Rattle.trace_core.specs.Sites.{SiteEvents}
use Rattle.trace_core.specs.Targets.{all_targets}
use Rattle.trace_core.specs.declared.pairs.Pair.{Pair}
use Rattle.trace_core.proofs.ChainLaws.{reaches_itself, reaches_step, reached_holds}
use Rattle.script_core.proofs.Ascending.{with_pair, ascending_none, ascending_with, contains_with, still_with}

-- one that passes the test, with those before and behind it, or none
record Picked {X : Type 0} (test : X → Bool) (xs : List X) : Type 0 where
  one : X
  front : List X
  back : List X
  is : xs ≡ front ++ one ∷ back
  passes : test one ≡ true

pick : {X : Type 0} (test : X → Bool) (xs : List X) → Picked test xs ⊎ ((x : X) → Contains xs x → test x ≡ true → ⊥)
pick test [] = inr (λ x at passes. contains_none x at)
pick test (x ∷ xs) = elim (test x) as (λ v. test x ≡ v → Picked test (x ∷ xs) ⊎ ((y : _) → Contains (x ∷ xs) y → test y ≡ true → ⊥)) [
  | true ↦ λ e. inl (record { one = x; front = []; back = xs; is = refl; passes = e })
  | false ↦ λ e. elim (pick test xs) as (λ s. Picked test (x ∷ xs) ⊎ ((y : _) → Contains (x ∷ xs) y → test y ≡ true → ⊥)) [
    | inl p ↦ inl (record { one = p.one; front = x ∷ p.front; back = p.back; is = ap (λ l. x ∷ l) p.is; passes = p.passes })
    | inr none ↦ inr (λ y at passes. ⊎_elim
        (λ same. let bad : true ≡ false = sym passes ∙ ap test (sym same) ∙ e in cc)
        (λ later. none y later passes) (contains_cases x y xs at))
  ]
] refl

module _ (captured : List SiteEvents) (root : Pair) where
  abbrev relates : Pair → Pair → Bool
  relates p q = list_any (λ s. s.me == p.site && is_related s p.item q) captured

  relates_so : (p q : Pair) → relates p q ≡ true → Related captured p q
  relates_so p q e =
      let (s, at, both) = list_any_witness (λ s. s.me == p.site && is_related s p.item q) captured e in
      let parts = and_parts (s.me == p.site) (is_related s p.item q) both in
      (at.0, s, at.1, at.2, (eqb-true s.me p.site parts.0, (related_decides s p.item q).0 parts.1))

  relates_if : (p q : Pair) → Related captured p q → relates p q ≡ true
  relates_if p q (k, s, lt, at, (same, related)) =
      list_any_member (λ s. s.me == p.site && is_related s p.item q) captured s (k, lt, at) (and_from (s.me == p.site) (is_related s p.item q) (eq-eqb s.me p.site same) ((related_decides s p.item q).1 related))

  -- all that the root reaches, ascending
  abbrev Found : Type 0
  Found = (pairs : List Pair) × IsStrictlyAscending pairs × ((p : Pair) → Contains pairs p ↔ Reaches (Related captured) root p)

  finished : (found : List Pair) → IsStrictlyAscending found → All (λ p. Reaches (Related captured) root p) found → Contains found root
      → ((p q : Pair) → Contains found p → Related captured p q → Contains found q) → Found
  finished found up reached has closed =
      (found, up, λ p. (λ at. All-contains (λ p. Reaches (Related captured) root p) found p reached at, λ r. reached_holds (Related captured) (Contains found) closed root p r has))

  -- the targets that are still to be found, and those that are
  abbrev Covers : List Pair → List Pair → Type 0
  Covers rest found = (p q : Pair) → Related captured p q → Contains found q ⊎ Contains rest q

  step_covers : (front back found : List Pair) (one : Pair) → Covers (front ++ one ∷ back) found → Covers (front ++ back) (with_pair found one)
  step_covers front back found one covers p q related =
      ⊎_elim (λ before. inl (still_with found one q before))
      (λ later. ⊎_elim (λ at. inr (Contains-append_left front back q at))
      (λ at. ⊎_elim (λ same. inl (subst (Contains (with_pair found one)) same (contains_with found one))) (λ past. inr (Contains-append_right front back q past)) (contains_cases one q back at))
      (Contains-append_cases front (one ∷ back) q later))
      (covers p q related)

  step_reached : (found : List Pair) (one : Pair) → All (λ p. Reaches (Related captured) root p) found → list_any (λ p. relates p one) found ≡ true → Reaches (Related captured) root one
  step_reached found one reached passes =
      let (p, at, e) = list_any_witness (λ p. relates p one) found passes in
      reaches_step (Related captured) root p one (All-contains (λ p. Reaches (Related captured) root p) found p reached at) (relates_so p one e)

  picks : (rest found : List Pair) → Picked (λ q. list_any (λ p. relates p q) found) rest ⊎ ((q : Pair) → Contains rest q → list_any (λ p. relates p q) found ≡ true → ⊥)
  picks rest found = pick (λ q. list_any (λ p. relates p q) found) rest

  closed : (rest found : List Pair) → Covers rest found → ((q : Pair) → Contains rest q → list_any (λ p. relates p q) found ≡ true → ⊥)
      → (p q : Pair) → Contains found p → Related captured p q → Contains found q
  closed rest found covers none p q at related =
      ⊎_elim (λ there. there) (λ left. absurd (none q left (list_any_member (λ p. relates p q) found p at (relates_if p q related)))) (covers p q related)

  search_on : (n : ℕ) (rest found : List Pair) → length rest ≤ n → IsStrictlyAscending found → All (λ p. Reaches (Related captured) root p) found → Contains found root
      → Covers rest found → Found
  search_on zero rest found few up reached has covers = elim (picks rest found) as (λ s. Found) [
    | inr none ↦ finished found up reached has (closed rest found covers none)
    | inl picked ↦ let size = ap length picked.is ∙ length-append picked.front (picked.one ∷ picked.back) in absurd (omega arith)
  ]
  search_on (suc m) rest found few up reached has covers = elim (picks rest found) as (λ s. Found) [
    | inr none ↦ finished found up reached has (closed rest found covers none)
    | inl picked ↦
        let size = ap length picked.is ∙ length-append picked.front (picked.one ∷ picked.back) in
        let smaller : length (picked.front ++ picked.back) ≤ m = omega (arith, length-append picked.front picked.back) in
        search_on m (picked.front ++ picked.back) (with_pair found picked.one) smaller (ascending_with found picked.one up)
        (All-insert_key pair_cmp picked.one (λ p. Reaches (Related captured) root p) found reached (step_reached found picked.one reached picked.passes))
        (still_with found picked.one root has)
        (step_covers picked.front picked.back found picked.one (subst (λ xs. Covers xs found) picked.is covers))
  ]

  pub reach_list : (pairs : List Pair) × IsStrictlyAscending pairs × ((p : Pair) → Contains pairs p ↔ Reaches (Related captured) root p)
  reach_list =
      search_on (length (all_targets captured)) (all_targets captured) (with_pair [] root) (omega arith) (ascending_with [] root ascending_none)
      (All-cons (λ p. Reaches (Related captured) root p) root [] (reaches_itself (Related captured) root) (All-nil (λ p. Reaches (Related captured) root p)))
      (contains_with [] root)
      (λ p q related. inr (has_targets captured p q related))
