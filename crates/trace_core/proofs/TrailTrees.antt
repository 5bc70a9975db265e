-- Trails as a tree of steps has them: each is the one to the step before, and then its own pair.
use Rattle.std.proofs.Common.{◌≡◌, ◌≢◌, ◌<◌, ◌≤◌, ◌+◌, ◌-◌, ℕ, zero, suc, List, [], ◌∷◌, ◌++◌, Option, None, Some, drop, map, length, get_or, All, refl, sym, ap, ◌∙◌, subst, ⊎_elim, append_assoc, length-append, arith}
use Rattle.std.specs.List.{AllZip}
use Rattle.std.specs.Option.{option_map}
use Rattle.std.proofs.lemmas.Bool.{cases_eq}
use Rattle.std.proofs.lemmas.List.{get_or_append_left, get_or-append_right, map-append}
use Rattle.std.proofs.lemmas.List.Elements.{All-nil, All-cons}
use Rattle.trace_core.specs.declared.pairs.Pair.{Pair}
use Rattle.trace_core.specs.declared.steps.Step.{Step}
use Rattle.trace_core.specs.Trails.{AreSteps, GoBack, IsAt, IsEnd, IsPlaceOf, TellsTrailBy, before_last, trail_at, trails_onto}
use Rattle.trace_core.proofs.TrailEnds.{before_two, last_two}
use Rattle.trace_core.proofs.TrailSteps.{IsPath, IsTraced, element, one_at, reached_listed, trail_told}

-- ---- the trails, step by step

-- what stands stays
onto_stays : (told : List (List Pair)) (steps : List Step) (k : ℕ) → k < length told → get_or (trails_onto told steps) k [] ≡ get_or told k []
onto_stays told [] k lt = refl
onto_stays told (s ∷ steps) k lt =
    let one : List (List Pair) = (get_or told s.from [] ++ s.pair ∷ []) ∷ [] in
    onto_stays (told ++ one) steps k (omega (arith, lt, length-append told one)) ∙ get_or_append_left told one [] k lt

-- the last of a list
at_end : (told : List (List Pair)) (x : List Pair) (n : ℕ) → n ≡ length told → get_or (told ++ x ∷ []) n [] ≡ x
at_end told x n is = get_or-append_right told (x ∷ []) (length told) n [] refl (omega (arith, is)) ∙ first (n - length told) (omega (arith, is))
  where
    first : (k : ℕ) → k ≡ 0 → get_or (x ∷ []) k [] ≡ x
    first k zero_is = ap (λ m. get_or (x ∷ []) m []) zero_is

-- the trail to a step behind an earlier one
onto_later : (told : List (List Pair)) (steps : List Step) (k n : ℕ) (s : Step) → n ≡ length told + k → k < length steps → get_or steps k s ≡ s → s.from < n
    → get_or (trails_onto told steps) n [] ≡ get_or (trails_onto told steps) s.from [] ++ s.pair ∷ []
onto_later told [] k n s is lt at below = absurd (omega (arith, lt))
onto_later told (t ∷ steps) zero n s is lt at below =
    let x : List Pair = get_or told t.from [] ++ t.pair ∷ [] in
    let more : List (List Pair) = told ++ x ∷ [] in
    let long = length-append told (x ∷ []) in
    let before : s.from < length told = omega (arith, below, is) in
    let stays : get_or (trails_onto more steps) s.from [] ≡ get_or told s.from [] =
    onto_stays more steps s.from (omega (arith, before, long)) ∙ get_or_append_left told (x ∷ []) [] s.from before in
    onto_stays more steps n (omega (arith, is, long)) ∙ at_end told x n (omega (arith, is)) ∙ ap (λ (y : Step). get_or told y.from [] ++ y.pair ∷ []) at
    ∙ ap (λ (ps : List Pair). ps ++ s.pair ∷ []) (sym stays)
onto_later told (t ∷ steps) (suc k) n s is lt at below =
    let x : List Pair = get_or told t.from [] ++ t.pair ∷ [] in
    let long = length-append told (x ∷ []) in
    onto_later (told ++ x ∷ []) steps k n s (omega (arith, is, long)) (omega (arith, lt)) at below

-- the first step's is its pair
pub trail_first : (steps : List Step) (s : Step) → IsAt steps 0 s → trail_at steps 0 ≡ s.pair ∷ []
trail_first [] s (lt, at) = absurd (omega (arith, lt))
trail_first (t ∷ steps) s (lt, at) = onto_stays ((t.pair ∷ []) ∷ []) steps 0 (omega arith) ∙ ap (λ (x : Step). x.pair ∷ []) at

-- any other one's is that of the step before it, and its pair
pub trail_later : (steps : List Step) (k : ℕ) (s : Step) → GoBack steps → IsAt steps k s → k ≢ 0 → trail_at steps k ≡ trail_at steps s.from ++ s.pair ∷ []
trail_later steps k s back (lt, at) later = onto_later [] steps k k s (omega arith) lt at (back k s (lt, at) later)

-- so each ends with its step's pair
trail_ends : (steps : List Step) (k : ℕ) (s : Step) → GoBack steps → IsAt steps k s → (xs : List Pair) × (trail_at steps k ≡ xs ++ s.pair ∷ [])
trail_ends steps k s back at = ⊎_elim
    (λ first. ([], ap (trail_at steps) first ∙ trail_first steps s (subst (λ n. IsAt steps n s) first at)))
    (λ later. (trail_at steps s.from, trail_later steps k s back at later))
    (cases_eq k 0)

-- ---- the pair before the last one

-- of the first step's there is none
pub before_first : (steps : List Step) (s : Step) → IsAt steps 0 s → before_last (trail_at steps 0) ≡ None
before_first steps s at = ap before_last (trail_first steps s at)

-- of any other one's it is that of the step before
pub before_later : (steps : List Step) (k : ℕ) (s t : Step) → GoBack steps → IsAt steps k s → k ≢ 0 → IsAt steps s.from t → before_last (trail_at steps k) ≡ Some t.pair
before_later steps k s t back at later from =
    let (xs, ends) = trail_ends steps s.from t back from in
    ap before_last (trail_later steps k s back at later ∙ ap (λ (ps : List Pair). ps ++ s.pair ∷ []) ends) ∙ before_two xs t.pair s.pair

-- ---- its last two pairs

pub ending_first : (steps : List Step) (s : Step) → IsAt steps 0 s → drop (length (trail_at steps 0) - 2) (trail_at steps 0) ≡ s.pair ∷ []
ending_first steps s at = ap (λ (ps : List Pair). drop (length ps - 2) ps) (trail_first steps s at)

pub ending_later : (steps : List Step) (k : ℕ) (s t : Step) → GoBack steps → IsAt steps k s → k ≢ 0 → IsAt steps s.from t
    → drop (length (trail_at steps k) - 2) (trail_at steps k) ≡ t.pair ∷ s.pair ∷ []
ending_later steps k s t back at later from =
    let (xs, ends) = trail_ends steps s.from t back from in
    ap (λ (ps : List Pair). drop (length ps - 2) ps) (trail_later steps k s back at later ∙ ap (λ (ps : List Pair). ps ++ s.pair ∷ []) ends) ∙ last_two xs t.pair s.pair

-- ---- a trail that is gathered from its end

-- these pairs are the trail's from the place on
pub record IsRest (steps : List Step) (last place : ℕ) (pairs : List Pair) : Type 0 where
  pub within : place < length steps
  pub whole : place ≡ 0 → pairs ≡ trail_at steps last
  pub rest : (s : Step) → IsAt steps place s → place ≢ 0 → trail_at steps last ≡ trail_at steps s.from ++ pairs

pub rest_begins : (steps : List Step) (last : ℕ) (s : Step) (copy : Pair) (pairs : List Pair) → GoBack steps → IsAt steps last s → copy ≡ s.pair → pairs ≡ copy ∷ [] → IsRest steps last last pairs
rest_begins steps last s copy pairs back at same are =
    let one : pairs ≡ s.pair ∷ [] = are ∙ ap (λ (p : Pair). p ∷ []) same in
    record {
      within = at.0;
      whole = λ first. one ∙ sym (trail_first steps s (subst (λ n. IsAt steps n s) first at)) ∙ ap (trail_at steps) (sym first);
      rest = λ t here later. trail_later steps last t back here later ∙ ap (λ (ps : List Pair). trail_at steps t.from ++ ps) (ap (λ (x : Step). x.pair ∷ []) (one_at steps last t s here at) ∙ sym one);
    }

pub rest_goes : (steps : List Step) (last place before : ℕ) (s t : Step) (copy : Pair) (pairs pairs' : List Pair) → GoBack steps → IsRest steps last place pairs → place ≢ 0 → IsAt steps place s → before ≡ s.from
    → IsAt steps before t → copy ≡ t.pair → pairs' ≡ copy ∷ pairs → IsRest steps last before pairs'
rest_goes steps last place before s t copy pairs pairs' back so_far later at from there same are =
    let are' : pairs' ≡ t.pair ∷ pairs = are ∙ ap (λ (p : Pair). p ∷ pairs) same in
    let all : trail_at steps last ≡ trail_at steps before ++ pairs = so_far.rest s at later ∙ ap (λ n. trail_at steps n ++ pairs) (sym from) in
    record {
      within = there.0;
      whole = λ first. are' ∙ sym (all ∙ ap (λ (ps : List Pair). ps ++ pairs) (ap (trail_at steps) first ∙ trail_first steps t (subst (λ n. IsAt steps n t) first there)));
      rest = λ u here further.
          all ∙ ap (λ (ps : List Pair). ps ++ pairs) (trail_later steps before u back here further) ∙ append_assoc (trail_at steps u.from) (u.pair ∷ []) pairs
          ∙ ap (λ (ps : List Pair). trail_at steps u.from ++ ps) (ap (λ (x : Step). x.pair ∷ pairs) (one_at steps before u t here there) ∙ sym are');
    }

-- ---- what the search says of them

-- a path goes on by a step
path_on : (steps : List Step) (a : ℕ × Step) (rest : List (ℕ × Step)) (j k : ℕ) (s : Step) → IsPath steps (a ∷ rest) j → IsAt steps k s → s.from ≡ j → j < k → IsPath steps (a ∷ (rest ++ (k, s) ∷ [])) k
path_on steps a [] j k s (here, is) at from below = (here, from ∙ sym is, subst (λ n. n < k) (sym is) below, (at, refl))
path_on steps a (b ∷ rest) j k s (here, is, lt, more) at from below = (here, is, lt, path_on steps b rest j k s more at from below)

-- the pairs of the steps that lead to the place
traced_first : (k : ℕ) (steps : List Step) → k ≡ 0 → k < length steps → IsTraced steps 0 k (trail_at steps k)
traced_first k steps first lt =
    let (s, below, is) = element steps 0 (omega (arith, lt, first)) in
    let at : IsAt steps 0 s = (below, is) in
    subst (λ m. IsTraced steps 0 m (trail_at steps m)) (sym first) (s, [], (at, refl), trail_first steps s at)

trail_traced : (n k : ℕ) (steps : List Step) → GoBack steps → k ≤ n → k < length steps → IsTraced steps 0 k (trail_at steps k)
trail_traced zero k steps back le lt = traced_first k steps (omega (arith, le)) lt
trail_traced (suc n) k steps back le lt = ⊎_elim
    (λ first. traced_first k steps first lt)
    (λ later.
    let (s, there, is) = element steps k lt in
    let at : IsAt steps k s = (there, is) in
    let below = back k s at later in
    let (first, rest, path, are) = trail_traced n s.from steps back (omega (arith, below, le)) (omega (arith, below, lt)) in (
      first,
      rest ++ (k, s) ∷ [],
      path_on steps (0, first) rest s.from k s path at refl below,
      trail_later steps k s back at later ∙ ap (λ (ps : List Pair). ps ++ s.pair ∷ []) are ∙ sym (map-append (λ (a : ℕ × Step). a.1.pair) ((0, first) ∷ rest) ((k, s) ∷ [])),
    ))
    (cases_eq k 0)

-- the trail that ends at a pair's place leads to the pair, and where it has none, nothing leads there
pub end_told : (R : Pair → Pair → Type 0) (root : Pair) (steps : List Step) → AreSteps R root (length steps) steps → (p : Pair) (end : Option ℕ) → IsPlaceOf steps p end → TellsTrailBy R root p (option_map (trail_at steps) end)
end_told R root steps done p None missing = λ reaches. missing (reached_listed R root steps done p reaches)
end_told R root steps done p (Some k) (s, here, found) = trail_told R root steps done p k s (trail_at steps k) here found (trail_traced k k steps done.back (omega arith) here.0)

-- so for a list of them
pub ends_told : (R : Pair → Pair → Type 0) (root : Pair) (steps : List Step) → AreSteps R root (length steps) steps → (ps : List Pair) (ends : List (Option ℕ)) → AllZip (IsPlaceOf steps) ps ends
    → AllZip (TellsTrailBy R root) ps (map (option_map (trail_at steps)) ends)
ends_told R root steps done [] [] are = tt
ends_told R root steps done [] (e ∷ es) are = absurd are
ends_told R root steps done (p ∷ ps) [] are = absurd are
ends_told R root steps done (p ∷ ps) (e ∷ es) are = (end_told R root steps done p e are.0, ends_told R root steps done ps es are.1)

pub places_told : (R : Pair → Pair → Type 0) (root : Pair) (steps : List Step) → AreSteps R root (length steps) steps → (ps : List Pair) (places : List ℕ) → AllZip (λ p k. IsPlaceOf steps p (Some k)) ps places
    → AllZip (λ p trail. TellsTrailBy R root p (Some trail)) ps (map (trail_at steps) places)
places_told R root steps done [] [] are = tt
places_told R root steps done [] (k ∷ ks) are = absurd are
places_told R root steps done (p ∷ ps) [] are = absurd are
places_told R root steps done (p ∷ ps) (k ∷ ks) are = (end_told R root steps done p (Some k) are.0, places_told R root steps done ps ks are.1)

-- each place of a pair is that of a step
pub ends_within : (steps : List Step) (ps : List Pair) (ends : List (Option ℕ)) → AllZip (IsPlaceOf steps) ps ends → All (IsEnd steps) ends
ends_within steps [] [] are = All-nil (IsEnd steps)
ends_within steps [] (e ∷ es) are = absurd are
ends_within steps (p ∷ ps) [] are = absurd are
ends_within steps (p ∷ ps) (e ∷ es) are = All-cons (IsEnd steps) e es (within e are.0) (ends_within steps ps es are.1)
  where
    within : (e : Option ℕ) → IsPlaceOf steps p e → IsEnd steps e
    within None place = tt
    within (Some k) (s, here, found) = here.0

pub places_within : (steps : List Step) (ps : List Pair) (places : List ℕ) → AllZip (λ p k. IsPlaceOf steps p (Some k)) ps places → All (λ k. k < length steps) places
places_within steps [] [] are = All-nil (λ k. k < length steps)
places_within steps [] (k ∷ ks) are = absurd are
places_within steps (p ∷ ps) [] are = absurd are
places_within steps (p ∷ ps) (k ∷ ks) are = let (s, here, found) = are.0 in All-cons (λ k. k < length steps) k ks here.0 (places_within steps ps ks are.1)
