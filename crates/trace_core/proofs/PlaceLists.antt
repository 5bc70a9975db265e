-- The places of those elements of a list that pass a test.
use Rattle.std.proofs.Common.{◌≡◌, ◌<◌, ◌+◌, ℕ, zero, suc, Bool, true, false, cond, not, ◌&&◌, ◌||◌, Option, Some, None, Result, Ok, Err, OnOk, OnErr, List, [], ◌∷◌, ◌++◌, is_some, map, filter, length, get_or, slice_get, refl, sym, ap, subst, ◌∙◌, ⊎_elim, append-nil, arith}
use Rattle.std.specs.List.{list_any, enumerate_from, Contains, AllPairs}
use Rattle.std.proofs.lemmas.Bool.{cases_Bool, and_parts, eqb-true}
use Rattle.std.proofs.lemmas.Bool.Decides.{same_from_decides}
use Rattle.std.proofs.lemmas.Option.{slice_get-get_or, get_or_from_slice_get}
use Rattle.std.proofs.lemmas.List.{map-append, length-map, get_or-map, get_or_default}
use Rattle.std.proofs.lemmas.List.Kept.{AllPairs-filter}
use Rattle.std.proofs.lemmas.List.Elements.{filter-append}
use Rattle.std.proofs.lemmas.List.FromFn.{length-enumerate_from, get_or-enumerate_from}
use mathlib.Core.Bool.{false≢true}
use Rattle.std.specs.Prelude.{◌==◌}
use Rattle.std.specs.Result.{is_err}
use Rattle.event_json.specs.Events.{Content}
use Rattle.event_json.specs.declared.bodies.Body.{Body}
use Rattle.trace_core.specs.PairTests.{lists, same_id}
use Rattle.trace_core.specs.Pairs.{make_id}
use Rattle.trace_core.specs.Spreads.{ins_in}
use Rattle.trace_core.specs.Places.{places_where, kept, or_none, id_places, at_place, takes_item, IsIndex, IsNoted, AreEarlier, Notes, Forgets, KeepsNone}
use Rattle.trace_core.proofs.Members.{contains_here, contains_there, contains_cases, contains_none, contains-map, list_any_witness, list_any_member}
use Rattle.trace_core.proofs.PlaceSteps.{kept_all}
use Rattle.trace_core.proofs.SetMembers.{contains-from_map}

element : {X : Type 0} (xs : List X) (i : ℕ) → i < length xs → (x : X) × (i < length xs) × (get_or xs i x ≡ x)
element [] i lt = absurd (omega (arith, lt))
element (x ∷ xs) zero lt = (x, lt, refl)
element (x ∷ xs) (suc i) lt = let (y, lt', at) = element xs i (omega (arith, lt)) in (y, omega (arith, lt'), at)

AllPairs-map : {X : Type 0} (f : X → ℕ) (xs : List X) → AllPairs (λ a b. f a < f b) xs → AllPairs (λ j k. j < k) (map f xs)
AllPairs-map f xs apart i j d before below =
    let len = length-map xs f in
    let (x, lt, at) = element xs i (omega (arith, before, below, len)) in
    let first = get_or-map f xs i x d (omega (arith, before, below, len)) in
    let second = get_or-map f xs j x d (omega (arith, below, len)) in
    let ordered = apart i j x before (omega (arith, below, len)) in
    omega (arith, ordered, first, second)

module _ {X : Type 0} (p : X → Bool) where
  enumerated_more : (n : ℕ) (xs : List X) (x : X) → enumerate_from n (xs ++ x ∷ []) ≡ enumerate_from n xs ++ (n + length xs, x) ∷ []
  enumerated_more n [] x = let none : n + 0 ≡ n = omega arith in ap (λ k. (k, x) ∷ []) (sym none)
  enumerated_more n (y ∷ ys) x =
      let next : n + 1 + length ys ≡ n + length (y ∷ ys) = omega arith in
      ap (λ rest. (n, y) ∷ rest) (enumerated_more (n + 1) ys x ∙ ap (λ k. enumerate_from (n + 1) ys ++ (k, x) ∷ []) next)

  one_place : (k : ℕ) (x : X) (b : Bool) → map (λ (a : ℕ × X). a.0) (cond b ((k, x) ∷ []) []) ≡ cond b (k ∷ []) []
  one_place k x true = refl
  one_place k x false = refl

  -- one element more
  pub places_more : (xs : List X) (x : X) → places_where p (xs ++ x ∷ []) ≡ places_where p xs ++ cond (p x) (length xs ∷ []) []
  places_more xs x =
      let test : ℕ × X → Bool = λ a. p a.1 in
      let first : ℕ × X → ℕ = λ a. a.0 in
      ap (λ those. map first (filter test those)) (enumerated_more 0 xs x)
      ∙ ap (map first) (filter-append test (enumerate_from 0 xs) ((0 + length xs, x) ∷ []))
      ∙ map-append first (filter test (enumerate_from 0 xs)) (filter test ((0 + length xs, x) ∷ []))
      ∙ ap (λ ks. places_where p xs ++ ks) (one_place (0 + length xs) x (p x) ∙ ap (λ k. cond (p x) (k ∷ []) []) (zero_plus (length xs)))
    where
      zero_plus : (n : ℕ) → 0 + n ≡ n
      zero_plus n = omega arith

  -- some place is kept where an element passes
  pub some_place : (n : ℕ) (xs : List X) → is_some (kept (map (λ (a : ℕ × X). a.0) (filter (λ (a : ℕ × X). p a.1) (enumerate_from n xs)))) ≡ list_any p xs
  some_place n [] = refl
  some_place n (x ∷ xs) = by_test (p x) (some_place (n + 1) xs)
    where
      rest : List (ℕ × X)
      rest = filter (λ (a : ℕ × X). p a.1) (enumerate_from (n + 1) xs)

      by_test : (b : Bool) → is_some (kept (map (λ (a : ℕ × X). a.0) rest)) ≡ list_any p xs → is_some (kept (map (λ (a : ℕ × X). a.0) (cond b ((n, x) ∷ rest) rest))) ≡ (b || list_any p xs)
      by_test true so_far = refl
      by_test false so_far = so_far

pub contains-filter : {X : Type 0} (p : X → Bool) (xs : List X) (x : X) → Contains xs x → p x ≡ true → Contains (filter p xs) x
contains-filter p [] x h px = absurd (contains_none x h)
contains-filter p (y ∷ ys) x h px = ⊎_elim
    (λ same. subst (λ b. Contains (cond b (y ∷ filter p ys) (filter p ys)) x) (sym (subst (λ z. p z ≡ true) (sym same) px)) (subst (Contains (y ∷ filter p ys)) same (contains_here y (filter p ys))))
    (λ there. let rest = contains-filter p ys x there px in ⊎_elim
    (λ yes. subst (λ b. Contains (cond b (y ∷ filter p ys) (filter p ys)) x) (sym yes) (contains_there y x (filter p ys) rest))
    (λ no. subst (λ b. Contains (cond b (y ∷ filter p ys) (filter p ys)) x) (sym no) rest)
    (cases_Bool (p y)))
    (contains_cases y x ys h)

pub contains-from_filter : {X : Type 0} (p : X → Bool) (xs : List X) (x : X) → Contains (filter p xs) x → Contains xs x × (p x ≡ true)
contains-from_filter p [] x h = absurd (contains_none x h)
contains-from_filter p (y ∷ ys) x h = ⊎_elim
    (λ yes. ⊎_elim
    (λ same. (subst (Contains (y ∷ ys)) same (contains_here y ys), subst (λ z. p z ≡ true) same yes))
    (λ there. let (rest, px) = contains-from_filter p ys x there in (contains_there y x ys rest, px))
    (contains_cases y x (filter p ys) (subst (λ b. Contains (cond b (y ∷ filter p ys) (filter p ys)) x) yes h)))
    (λ no. let (rest, px) = contains-from_filter p ys x (subst (λ b. Contains (cond b (y ∷ filter p ys) (filter p ys)) x) no h) in (contains_there y x ys rest, px))
    (cases_Bool (p y))

module _ {X : Type 0} (p : X → Bool) (xs : List X) where
  -- the place of an element that passes is among them
  pub place_there : (k : ℕ) (x : X) → k < length xs → get_or xs k x ≡ x → p x ≡ true → Contains (places_where p xs) k
  place_there k x below at passes =
      let len = length-enumerate_from 0 xs in
      let zero_plus : 0 + k ≡ k = omega arith in
      let is : get_or (enumerate_from 0 xs) k (k, x) ≡ (k, x) = get_or-enumerate_from 0 xs k (k, x) below ∙ ap (λ n. (n, get_or xs k x)) zero_plus ∙ ap (λ y. (k, y)) at in
      contains-map (λ (a : ℕ × X). a.0) (filter (λ (a : ℕ × X). p a.1) (enumerate_from 0 xs)) (k, x)
      (contains-filter (λ (a : ℕ × X). p a.1) (enumerate_from 0 xs) (k, x) (k, omega (arith, below, len), is) passes)

  -- and no other
  pub place_passes : (k : ℕ) → Contains (places_where p xs) k → (x : X) × (k < length xs) × (get_or xs k x ≡ x) × (p x ≡ true)
  place_passes k h =
      let (a, in', is) = contains-from_map (λ (a : ℕ × X). a.0) (filter (λ (a : ℕ × X). p a.1) (enumerate_from 0 xs)) k h in
      let ((j, lt, at), passes) = contains-from_filter (λ (a : ℕ × X). p a.1) (enumerate_from 0 xs) a in' in
      let below : j < length xs = omega (arith, lt, length-enumerate_from 0 xs) in
      let same : (0 + j, get_or xs j a.1) ≡ a = sym (get_or-enumerate_from 0 xs j a below) ∙ at in
      let place : j ≡ k = omega (arith, ap (λ (b : ℕ × X). b.0) same, is) in
      (a.1, omega (arith, below, place), ap (λ n. get_or xs n a.1) (sym place) ∙ ap (λ (b : ℕ × X). b.1) same, passes)

-- the places of a list's elements come before its end
earlier_places : (names : List ℕ → Content → Bool) (events : List Content) (place : ℕ) → place ≡ length events → AreEarlier (λ i. places_where (names i) events) place
earlier_places names events place last i k h = let (e, below, at, passes) = place_passes (names i) events k h in omega (arith, below, last)

module _ (found found' : List ℕ → Option (List ℕ)) (names : List ℕ → Content → Bool) (events : List Content) (place : ℕ) (last : place ≡ length events) where
  as_noted : IsIndex found names events → IsNoted found (λ i. places_where (names i) events) place (λ i. false)
  as_noted is i = is i ∙ ap kept (sym (append-nil (places_where (names i) events)))

  as_index : IsNoted found' (λ i. places_where (names i) events) place (λ i. false) → IsIndex found' names events
  as_index is i = is i ∙ ap kept (append-nil (places_where (names i) events))

  one_more : (e : Content) (i : List ℕ) → places_where (names i) events ++ cond (names i e) (place ∷ []) [] ≡ places_where (names i) (events ++ e ∷ [])
  one_more e i = ap (λ k. places_where (names i) events ++ cond (names i e) (k ∷ []) []) last ∙ sym (places_more (names i) events e)

  -- an event is noted
  pub index_more : (e : Content) → Notes found found' place (λ i. names i e) → IsIndex found names events → IsIndex found' names (events ++ e ∷ [])
  index_more e noted is i = noted (λ i. places_where (names i) events) (λ i. false) (earlier_places names events place last) (as_noted is) i ∙ ap kept (one_more e i)

  -- it is taken away
  pub index_less : (e : Content) → Forgets found found' place (λ i. names i e) → IsIndex found names (events ++ e ∷ []) → IsIndex found' names events
  index_less e forgotten is = as_index (λ i.
      forgotten (λ i. places_where (names i) events) (λ i. names i e) (earlier_places names events place last) (λ i. is i ∙ ap kept (sym (one_more e i))) i
      ∙ ap (λ b. kept (places_where (names i) events ++ cond b (place ∷ []) [])) (gone (names i e)))
    where
      gone : (b : Bool) → (b && not b) ≡ false
      gone true = refl
      gone false = refl

  -- nothing came of it
  pub index_same : KeepsNone found found' place → IsIndex found names events → IsIndex found' names events
  index_same kept_none is = as_index (kept_none (λ i. places_where (names i) events) (earlier_places names events place last) (as_noted is))

module _ (found found' : List ℕ → Option (List ℕ)) (place : ℕ) (e : Content) where
  -- what is noted for the inputs of an event, and for an id
  pub notes_inputs_of : (b : Body) → b ≡ e.body → Notes found found' place (lists (ins_in b)) → Notes found found' place (λ i. takes_item i e)
  notes_inputs_of b is = subst (λ (c : Body). Notes found found' place (lists (ins_in c))) is

  pub forgets_inputs_of : (b : Body) → b ≡ e.body → Forgets found found' place (lists (ins_in b)) → Forgets found found' place (λ i. takes_item i e)
  forgets_inputs_of b is = subst (λ (c : Body). Forgets found found' place (lists (ins_in c))) is

  pub notes_id : (o id : Option (List ℕ)) → o ≡ id → Notes found found' place (λ i. same_id o (Some i)) → Notes found found' place (λ i. same_id id (Some i))
  notes_id o id is = subst (λ (p : Option (List ℕ)). Notes found found' place (λ i. same_id p (Some i))) is

  pub forgets_id : (o id : Option (List ℕ)) → o ≡ id → Forgets found found' place (λ i. same_id o (Some i)) → Forgets found found' place (λ i. same_id id (Some i))
  forgets_id o id is = subst (λ (p : Option (List ℕ)). Forgets found found' place (λ i. same_id p (Some i))) is

-- what was noted and taken away again leaves the index as it was
pub index_back : (found noted found' : List ℕ → Option (List ℕ)) (names : List ℕ → Content → Bool) (events : List Content) (place : ℕ) (e : Content) → place ≡ length events
    → Notes found noted place (λ i. names i e) → Forgets noted found' place (λ i. names i e) → IsIndex found names events → IsIndex found' names events
index_back found noted found' names events place e last one two is = index_less noted found' names events place last e two (index_more found noted names events place last e one is)

-- the same look-ups
pub index_unchanged : (found found' : List ℕ → Option (List ℕ)) (names : List ℕ → Content → Bool) (events : List Content) → ((i : List ℕ) → found' i ≡ found i) → IsIndex found names events → IsIndex found' names events
index_unchanged found found' names events same is i = same i ∙ is i

-- the id of a body that is the event's
pub id_of_body : (o : Option (List ℕ)) (b : Body) (e : Content) → o ≡ make_id b → b ≡ e.body → o ≡ make_id e.body
id_of_body o b e is same = is ∙ ap make_id same

pub when_ok : {A E P : Type 0} (r : Result A E) (b : Bool) → b ≡ is_err r → b ≡ false → OnOk r P → P
when_ok (Ok a) b is fine p = p
when_ok (Err e) b is fine p = absurd (false≢true (sym fine ∙ is))

pub when_err : {A E P : Type 0} (r : Result A E) (b : Bool) → b ≡ is_err r → b ≡ true → OnErr r P → P
when_err (Ok a) b is fault p = absurd (false≢true (sym is ∙ fault))
when_err (Err e) b is fault p = p

-- no element passes
pub places_none : {X : Type 0} (p : X → Bool) (xs : List X) → ((x : X) → p x ≡ false) → places_where p xs ≡ []
places_none p xs none = nothing (places_where p xs) (λ k h. let (x, below, at, passes) = place_passes p xs k h in false≢true (sym (none x) ∙ passes))
  where
    nothing : (ks : List ℕ) → ((k : ℕ) → Contains ks k → ⊥) → ks ≡ []
    nothing [] h = refl
    nothing (k ∷ ks) h = absurd (h k (contains_here k ks))

pub no_id : (o : Option (List ℕ)) → same_id o None ≡ false
no_id None = refl
no_id (Some a) = refl

-- what is looked up under an id
pub id_looked_up : (found : List ℕ → Option (List ℕ)) (id_of : Content → Option (List ℕ)) (events : List Content) → IsIndex found (λ i e. same_id (id_of e) (Some i)) events
    → (o : Option (List ℕ)) → id_places found o ≡ places_where (λ e. same_id (id_of e) o) events
id_looked_up found id_of events is None = sym (places_none (λ e. same_id (id_of e) None) events (λ e. no_id (id_of e)))
id_looked_up found id_of events is (Some id) = ap or_none (is id) ∙ kept_all (places_where (λ e. same_id (id_of e) (Some id)) events)

-- a test of the events at the places of those that pass another one
module _ (p q : Content → Bool) (events : List Content) where
  pub any_at_places : list_any (λ k. at_place q (slice_get events k)) (places_where p events) ≡ list_any (λ e. p e && q e) events
  any_at_places = same_from_decides {P = list_any (λ e. p e && q e) events ≡ true} _ _ (
    λ h. let (k, in', passes) = list_any_witness (λ k. at_place q (slice_get events k)) (places_where p events) h in
        let (e, is, qe) = stands (slice_get events k) passes in
        let (x, below, at, px) = place_passes p events k in' in
        let there : get_or events k e ≡ e = get_or_from_slice_get events k e e is in
        let same : x ≡ e = sym at ∙ get_or_default events k x e below ∙ there in
        list_any_member (λ e. p e && q e) events e (k, below, there) (and_both (p e) (q e) (subst (λ y. p y ≡ true) same px) qe),
    λ h. let (e, (k, below, at), both) = list_any_witness (λ e. p e && q e) events h in
        let (pe, qe) = and_parts (p e) (q e) both in
        list_any_member (λ k. at_place q (slice_get events k)) (places_where p events) k (place_there p events k e below at pe)
        (ap (at_place q) (slice_get-get_or events k e below ∙ ap Some at) ∙ qe),
  )
      (λ h. h, λ h. h)
    where
      stands : (o : Option Content) → at_place q o ≡ true → (e : Content) × (o ≡ Some e) × (q e ≡ true)
      stands None h = absurd (false≢true h)
      stands (Some e) h = (e, refl, h)

      and_both : (a b : Bool) → a ≡ true → b ≡ true → (a && b) ≡ true
      and_both true true h k = refl
      and_both true false h k = k
      and_both false b h k = h

-- none is kept where no element passes
pub no_places : (places : List ℕ) (p : Content → Bool) (events : List Content) → places ≡ places_where p events → (length places == 0) ≡ not (list_any p events)
no_places places p events are = ap (λ ks. length ks == 0) are ∙ none_kept (places_where p events) ∙ ap not (some_place p 0 events)
  where
    none_kept : (ks : List ℕ) → (length ks == 0) ≡ not (is_some (kept ks))
    none_kept [] = refl
    none_kept (k ∷ ks) = ⊎_elim (λ zero. absurd (omega (arith, eqb-true (length (k ∷ ks)) 0 zero))) (λ some. some) (cases_Bool (length (k ∷ ks) == 0))

-- each place is below those after it
pub places_ascend : {X : Type 0} (p : X → Bool) (xs : List X) → AllPairs (λ j k. j < k) (places_where p xs)
places_ascend {X} p xs = AllPairs-map (λ (a : ℕ × X). a.0) (filter (λ a. p a.1) (enumerate_from 0 xs)) (AllPairs-filter (λ (a b : ℕ × X). a.0 < b.0) (λ a. p a.1) (enumerate_from 0 xs) numbered)
  where
    numbered : AllPairs (λ (a b : ℕ × X). a.0 < b.0) (enumerate_from 0 xs)
    numbered i j d before below =
        let len = length-enumerate_from 0 xs in
        let first = ap (λ (a : ℕ × X). a.0) (get_or-enumerate_from 0 xs i d (omega (arith, before, below, len))) in
        let second = ap (λ (a : ℕ × X). a.0) (get_or-enumerate_from 0 xs j d (omega (arith, below, len))) in
        omega (arith, before, first, second)
