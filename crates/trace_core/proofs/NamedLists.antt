-- Items with their places, by number.
use Rattle.std.proofs.Common.{◌≡◌, ◌+◌, tests, not, nat_lt, position, ℕ, zero, suc, Bool, true, false, cond, ◌||◌, List, [], ◌∷◌, ◌++◌, Option, Some, None, length, slice_get, Result, Ok, Err, IfOk, OnOk, option_map, refl, sym, ap, subst, ◌∙◌, ⊎_elim, arith}
use mathlib.Core.Bool.{false≢true}
use Rattle.std.specs.Cmp.Lexicographic.{nat_list_eq_equiv}
use Rattle.std.specs.List.{position_or_len}
use Rattle.std.specs.Map.{lookup, values_of}
use Rattle.indexmap.specs.IndexMap.{set_value_at}
use Rattle.std.proofs.lemmas.Bool.{cases_Bool, cond-true, cond-false}
use Rattle.std.proofs.lemmas.List.{map-append, length-map}
use Rattle.std.proofs.lemmas.Option.{slice_get-map}
use Rattle.std.proofs.lemmas.Slice.Eq.{bytes_eq-Decides}
use Rattle.trace_core.specs.Numbers.{Named, number_in, with_name, names_of, item_places, known_too, changed, changed_at, noted}
use Rattle.trace_core.specs.PairTests.{lists, same_item}
use Rattle.trace_core.specs.Places.{kept, or_none, ends_with, with_last, without_last}
use Rattle.trace_core.proofs.NumberLists.{some_is, none_is, number_pushed, unnumbered, number_listed}
use Rattle.trace_core.proofs.PlaceSteps.{kept_all}

kept_with_last : (place : ℕ) (places : List ℕ) → kept (with_last place places) ≡ Some (with_last place places)
kept_with_last place [] = refl
kept_with_last place (k ∷ ks) = some (ends_with place (k ∷ ks))
  where
    some : (b : Bool) → kept (cond b (k ∷ ks) ((k ∷ ks) ++ place ∷ [])) ≡ Some (cond b (k ∷ ks) ((k ∷ ks) ++ place ∷ []))
    some true = refl
    some false = refl

-- the names stay
pub changed_names : (f : List ℕ → List ℕ) (i : List ℕ) (named : List Named) → names_of (changed f i named) ≡ names_of named
changed_names f i [] = refl
changed_names f i (x ∷ xs) = by_test (same_item x.0 i) (changed_names f i xs)
  where
    by_test : (b : Bool) → names_of (changed f i xs) ≡ names_of xs → names_of (cond b ((x.0, f x.1) ∷ xs) (x ∷ changed f i xs)) ≡ names_of (x ∷ xs)
    by_test true so_far = refl
    by_test false so_far = ap (λ ns. x.0 ∷ ns) so_far

pub changed_at_names : (f : List ℕ → List ℕ) (n : ℕ) (named : List Named) → names_of (changed_at f n named) ≡ names_of named
changed_at_names f n [] = refl
changed_at_names f zero (x ∷ xs) = refl
changed_at_names f (suc n) (x ∷ xs) = ap (λ ns. x.0 ∷ ns) (changed_at_names f n xs)

-- what is changed at an item's number is changed of the item
pub changed_here : (f : List ℕ → List ℕ) (i : List ℕ) (n : ℕ) (named : List Named) → number_in (names_of named) i ≡ Some n → changed_at f n named ≡ changed f i named
changed_here f i n [] h = none_is n h
changed_here f i n (x ∷ xs) h = at (same_item x.0 i) (number_in (names_of xs) i) (λ m. changed_here f i m xs) h
  where
    at : (b : Bool) (o : Option ℕ) → ((m : ℕ) → o ≡ Some m → changed_at f m xs ≡ changed f i xs) → cond b (Some 0) (option_map suc o) ≡ Some n
        → changed_at f n (x ∷ xs) ≡ cond b ((x.0, f x.1) ∷ xs) (x ∷ changed f i xs)
    at true o there e = subst (λ k. changed_at f k (x ∷ xs) ≡ (x.0, f x.1) ∷ xs) (some_is 0 n e) refl
    at false None there e = none_is n e
    at false (Some m) there e = subst (λ k. changed_at f k (x ∷ xs) ≡ x ∷ changed f i xs) (some_is (suc m) n e) (ap (λ ys. x ∷ ys) (there m refl))

-- what is written at a number is changed there
pub value_changed : (f : List ℕ → List ℕ) (n : ℕ) (named : List Named) (old new : List ℕ) → Some old ≡ slice_get (values_of named) n → new ≡ f old → set_value_at named n new ≡ changed_at f n named
value_changed f n [] old new at is = refl
value_changed f zero (y ∷ ys) old new at is = ap (λ ps. (y.0, ps) ∷ ys) (is ∙ ap f (some_is old y.1 at))
value_changed f (suc n) (y ∷ ys) old new at is = ap (λ zs. y ∷ zs) (value_changed f n ys old new at is)

-- the same places change nothing
pub value_kept : (n : ℕ) (named : List Named) (old new : List ℕ) → Some old ≡ slice_get (values_of named) n → new ≡ old → set_value_at named n new ≡ named
value_kept n [] old new at is = refl
value_kept zero (y ∷ ys) old new at is = ap (λ ps. (y.0, ps) ∷ ys) (is ∙ some_is old y.1 at)
value_kept (suc n) (y ∷ ys) old new at is = ap (λ zs. y ∷ zs) (value_kept n ys old new at is)

-- past the end nothing is changed
pub changed_past : (f : List ℕ → List ℕ) (n : ℕ) (named : List Named) → None ≡ slice_get (values_of named) n → named ≡ changed_at f n named
changed_past f n [] past = refl
changed_past f zero (y ∷ ys) past = none_is y.1 past
changed_past f (suc n) (y ∷ ys) past = ap (λ zs. y ∷ zs) (changed_past f n ys past)

-- an item that isn't known stays unknown
pub changed_none : (f : List ℕ → List ℕ) (i : List ℕ) (named : List Named) → lists (names_of named) i ≡ false → changed f i named ≡ named
changed_none f i [] h = refl
changed_none f i (x ∷ xs) h = by_test (same_item x.0 i) (changed_none f i xs) h
  where
    by_test : (b : Bool) → (lists (names_of xs) i ≡ false → changed f i xs ≡ xs) → (b || lists (names_of xs) i) ≡ false → cond b ((x.0, f x.1) ∷ xs) (x ∷ changed f i xs) ≡ x ∷ xs
    by_test true so_far e = absurd (false≢true (sym e))
    by_test false so_far e = ap (λ ys. x ∷ ys) (so_far e)

pub no_places_of : (named : List Named) (i : List ℕ) → lists (names_of named) i ≡ false → item_places named i ≡ None
no_places_of [] i h = refl
no_places_of (x ∷ xs) i h = by_test (same_item x.0 i) (no_places_of xs i) h
  where
    by_test : (b : Bool) → (lists (names_of xs) i ≡ false → item_places xs i ≡ None) → (b || lists (names_of xs) i) ≡ false → cond b (kept x.1) (item_places xs i) ≡ None
    by_test true so_far e = absurd (false≢true (sym e))
    by_test false so_far e = so_far e

-- what a look-up finds of a known item after a change
pub changed_found : (f : List ℕ → List ℕ) (i : List ℕ) (named : List Named) → lists (names_of named) i ≡ true
    → (j : List ℕ) → item_places (changed f i named) j ≡ cond (same_item i j) (kept (f (or_none (item_places named i)))) (item_places named j)
changed_found f i [] h j = absurd (false≢true h)
changed_found f i (x ∷ xs) h j = by_test (same_item x.0 i) (λ same. (bytes_eq-Decides x.0 i).0 same) refl (λ e. changed_found f i xs e j) h
  where
    first : (b : Bool) (o : Option (List ℕ)) → cond b (kept (f x.1)) o ≡ cond b (kept (f (or_none (kept x.1)))) (cond b (kept x.1) o)
    first true o = ap (λ ps. kept (f ps)) (sym (kept_all x.1))
    first false o = refl

    later : (w : Option (List ℕ)) (b c : Bool) → (c ≡ true → b ≡ false) → cond b (kept x.1) (cond c w (item_places xs j)) ≡ cond c w (cond b (kept x.1) (item_places xs j))
    later w b false apart = refl
    later w true true apart = absurd (false≢true (sym (apart refl)))
    later w false true apart = refl

    by_test : (b : Bool) → (b ≡ true → x.0 ≡ i) → same_item x.0 i ≡ b
        → (lists (names_of xs) i ≡ true → item_places (changed f i xs) j ≡ cond (same_item i j) (kept (f (or_none (item_places xs i)))) (item_places xs j)) → (b || lists (names_of xs) i) ≡ true
        → item_places (cond b ((x.0, f x.1) ∷ xs) (x ∷ changed f i xs)) j ≡ cond (same_item i j) (kept (f (or_none (cond b (kept x.1) (item_places xs i))))) (cond (same_item x.0 j) (kept x.1) (item_places xs j))
    by_test true same is so_far e = subst (λ k. cond (same_item x.0 j) (kept (f x.1)) (item_places xs j) ≡ cond (same_item k j) (kept (f (or_none (kept x.1)))) (cond (same_item x.0 j) (kept x.1) (item_places xs j))) (same refl)
        (first (same_item x.0 j) (item_places xs j))
    by_test false same is so_far e =
        ap (λ o. cond (same_item x.0 j) (kept x.1) o) (so_far e)
        ∙ later (kept (f (or_none (item_places xs i)))) (same_item x.0 j) (same_item i j) (λ here. subst (λ k. same_item x.0 k ≡ false) ((bytes_eq-Decides i j).0 here) is)

-- a new item
pub pushed_found : (named : List Named) (x : Named) → lists (names_of named) x.0 ≡ false → (j : List ℕ) → item_places (named ++ x ∷ []) j ≡ cond (same_item x.0 j) (kept x.1) (item_places named j)
pushed_found [] x h j = refl
pushed_found (y ∷ ys) x h j = by_test (same_item y.0 x.0) refl (λ e. pushed_found ys x e j) h
  where
    later : (w o : Option (List ℕ)) (b c : Bool) → (c ≡ true → b ≡ false) → cond b (kept y.1) (cond c w o) ≡ cond c w (cond b (kept y.1) o)
    later w o b false apart = refl
    later w o true true apart = absurd (false≢true (sym (apart refl)))
    later w o false true apart = refl

    by_test : (b : Bool) → same_item y.0 x.0 ≡ b
        → (lists (names_of ys) x.0 ≡ false → item_places (ys ++ x ∷ []) j ≡ cond (same_item x.0 j) (kept x.1) (item_places ys j)) → (b || lists (names_of ys) x.0) ≡ false
        → cond (same_item y.0 j) (kept y.1) (item_places (ys ++ x ∷ []) j) ≡ cond (same_item x.0 j) (kept x.1) (cond (same_item y.0 j) (kept y.1) (item_places ys j))
    by_test true is so_far e = absurd (false≢true (sym e))
    by_test false is so_far e =
        ap (λ o. cond (same_item y.0 j) (kept y.1) o) (so_far e)
        ∙ later (kept x.1) (item_places ys j) (same_item y.0 j) (same_item x.0 j) (λ here. subst (λ k. same_item y.0 k ≡ false) ((bytes_eq-Decides x.0 j).0 here) is)

by_listed : (P : Bool → Type 0) (b : Bool) → (b ≡ true → P true) → (b ≡ false → P false) → P b
by_listed P true there new = there refl
by_listed P false there new = new refl

-- an item is noted
pub noted_found : (place : ℕ) (i : List ℕ) (named : List Named) (j : List ℕ) → item_places (noted place i named) j ≡ cond (same_item i j) (Some (with_last place (or_none (item_places named i)))) (item_places named j)
noted_found place i named j = by_listed (λ b. item_places (cond b (changed (with_last place) i named) (named ++ (i, place ∷ []) ∷ [])) j ≡ cond (same_item i j) (Some (with_last place (or_none (item_places named i)))) (item_places named j))
    (lists (names_of named) i)
    (λ known. changed_found (with_last place) i named known j ∙ ap (λ o. cond (same_item i j) o (item_places named j)) (kept_with_last place (or_none (item_places named i))))
    (λ new. pushed_found named ((i, place ∷ [])) new j
    ∙ ap (λ o. cond (same_item i j) (Some (with_last place (or_none o))) (item_places named j)) (sym (no_places_of named i new)))

pub noted_names : (place : ℕ) (i : List ℕ) (named : List Named) → names_of (noted place i named) ≡ with_name (names_of named) i
noted_names place i named = by_test (lists (names_of named) i)
  where
    by_test : (b : Bool) → names_of (cond b (changed (with_last place) i named) (named ++ (i, place ∷ []) ∷ [])) ≡ cond b (names_of named) (names_of named ++ i ∷ [])
    by_test true = changed_names (with_last place) i named
    by_test false = map-append (λ (x : Named). x.0) named ((i, place ∷ []) ∷ [])

pub noted_known : (place : ℕ) (i : List ℕ) (n : ℕ) (named : List Named) → Some n ≡ number_in (names_of named) i → changed_at (with_last place) n named ≡ noted place i named
noted_known place i n named known =
    changed_here (with_last place) i n named (sym known)
    ∙ sym (cond-true (lists (names_of named) i) (changed (with_last place) i named) (named ++ (i, place ∷ []) ∷ []) (number_listed (names_of named) i n (sym known)))

pub noted_new : (place : ℕ) (i : List ℕ) (named : List Named) → None ≡ number_in (names_of named) i → named ++ (i, place ∷ []) ∷ [] ≡ noted place i named
noted_new place i named unknown = sym (cond-false (lists (names_of named) i) (changed (with_last place) i named) (named ++ (i, place ∷ []) ∷ []) (unnumbered (names_of named) i (sym unknown)))

-- an item that is known stays, and a new one comes without places
pub knew : (i : List ℕ) (n : ℕ) (named : List Named) → Some n ≡ number_in (names_of named) i → named ≡ known_too i named
knew i n named known = sym (cond-true (lists (names_of named) i) named (named ++ (i, []) ∷ []) (number_listed (names_of named) i n (sym known)))

pub learnt : (i : List ℕ) (named : List Named) → None ≡ number_in (names_of named) i → named ++ (i, []) ∷ [] ≡ known_too i named
learnt i named unknown = sym (cond-false (lists (names_of named) i) named (named ++ (i, []) ∷ []) (unnumbered (names_of named) i (sym unknown)))

pub known_names : (i : List ℕ) (named : List Named) → names_of (known_too i named) ≡ with_name (names_of named) i
known_names i named = by_test (lists (names_of named) i)
  where
    by_test : (b : Bool) → names_of (cond b named (named ++ (i, []) ∷ [])) ≡ cond b (names_of named) (names_of named ++ i ∷ [])
    by_test true = refl
    by_test false = map-append (λ (x : Named). x.0) named ((i, []) ∷ [])

-- what an item has no places of is looked up as if it were unknown
none_there : (c : Bool) (o : Option (List ℕ)) → (c ≡ true → o ≡ None) → o ≡ cond c None o
none_there true o none = none refl
none_there false o none = refl

pub known_found : (i : List ℕ) (named : List Named) (j : List ℕ) → item_places (known_too i named) j ≡ item_places named j
known_found i named j = by_listed (λ b. item_places (cond b named (named ++ (i, []) ∷ [])) j ≡ item_places named j)
    (lists (names_of named) i)
    (λ known. refl)
    (λ new. pushed_found named ((i, [])) new j
    ∙ sym (none_there (same_item i j) (item_places named j) (λ here. subst (λ k. item_places named k ≡ None) ((bytes_eq-Decides i j).0 here) (no_places_of named i new))))

-- a place of it is taken away
pub forgotten_found : (place : ℕ) (i : List ℕ) (named : List Named) (j : List ℕ) → item_places (changed (without_last place) i named) j ≡ cond (same_item i j) (kept (without_last place (or_none (item_places named i)))) (item_places named j)
forgotten_found place i named j = ⊎_elim
    (λ known. changed_found (without_last place) i named known j)
    (λ new. ap (λ xs. item_places xs j) (changed_none (without_last place) i named new) ∙ as_before new)
    (cases_Bool (lists (names_of named) i))
  where
    as_before : lists (names_of named) i ≡ false → item_places named j ≡ cond (same_item i j) (kept (without_last place (or_none (item_places named i)))) (item_places named j)
    as_before new =
        let gone : item_places named i ≡ None = no_places_of named i new in
        none_there (same_item i j) (item_places named j) (λ here. subst (λ k. item_places named k ≡ None) ((bytes_eq-Decides i j).0 here) gone)
        ∙ ap (λ o. cond (same_item i j) (kept (without_last place (or_none o))) (item_places named j)) (sym gone)

-- the first items alone
pub found_in_front : (front rest : List Named) (i : List ℕ) → lists (names_of front) i ≡ true → item_places (front ++ rest) i ≡ item_places front i
found_in_front [] rest i h = absurd (false≢true h)
found_in_front (x ∷ xs) rest i h = by_test (same_item x.0 i) (found_in_front xs rest i) h
  where
    by_test : (b : Bool) → (lists (names_of xs) i ≡ true → item_places (xs ++ rest) i ≡ item_places xs i) → (b || lists (names_of xs) i) ≡ true → cond b (kept x.1) (item_places (xs ++ rest) i) ≡ cond b (kept x.1) (item_places xs i)
    by_test true so_far e = refl
    by_test false so_far e = so_far e

-- the key that a map finds is the name that has the number
same_either : (i j : List ℕ) → same_item i j ≡ same_item j i
same_either = nat_list_eq_equiv.symm

pub number_at : (i : List ℕ) (names : List (List ℕ)) → position (same_item i) names ≡ number_in names i
number_at i [] = refl
number_at i (x ∷ xs) = by_test (same_item i x) (number_at i xs) ∙ ap (λ b. cond b (Some 0) (option_map suc (number_in xs i))) (same_either i x)
  where
    by_test : (b : Bool) → position (same_item i) xs ≡ number_in xs i
        → cond (nat_lt (cond (not b) (1 + position_or_len (same_item i) xs) 0) (suc (length xs))) (Some (cond (not b) (1 + position_or_len (same_item i) xs) 0)) None ≡ cond b (Some 0) (option_map suc (number_in xs i))
    by_test true rest = grind (arith, tests)
    by_test false rest = grind (arith, tests, rest)

-- what a look-up by the key finds
pub places_found : (named : List Named) (i places : List ℕ) → lookup (same_item i) named ≡ Some places → item_places named i ≡ kept places
places_found [] i places h = none_is places h
places_found (x ∷ xs) i places h = ap (λ b. cond b (kept x.1) (item_places xs i)) (same_either x.0 i) ∙ by_test (same_item i x.0) (places_found xs i places) h
  where
    by_test : (b : Bool) → (lookup (same_item i) xs ≡ Some places → item_places xs i ≡ kept places) → cond b (Some x.1) (lookup (same_item i) xs) ≡ Some places → cond b (kept x.1) (item_places xs i) ≡ kept places
    by_test true later e = ap kept (some_is x.1 places e)
    by_test false later e = later e

-- and not of an item that isn't known
pub not_found : (named : List Named) (i : List ℕ) → lists (names_of named) i ≡ false → lookup (same_item i) named ≡ None
not_found [] i h = refl
not_found (x ∷ xs) i h = ap (λ b. cond b (Some x.1) (lookup (same_item i) xs)) (same_either i x.0) ∙ by_test (same_item x.0 i) (not_found xs i) h
  where
    by_test : (b : Bool) → (lists (names_of xs) i ≡ false → lookup (same_item i) xs ≡ None) → (b || lists (names_of xs) i) ≡ false → cond b (Some x.1) (lookup (same_item i) xs) ≡ None
    by_test true so_far e = absurd (false≢true (sym e))
    by_test false so_far e = so_far e

-- the number of an item that is added
pub number_told : {E : Type 0} (r : Result ℕ E) (named named' : List Named) (i places : List ℕ) → None ≡ number_in (names_of named) i → OnOk r (named' ≡ named ++ (i, places) ∷ []) → IfOk r (λ n. n ≡ length named)
    → IfOk r (λ n. number_in (names_of named') i ≡ Some n)
number_told (Err e) named named' i places unknown pushed is = tt
number_told (Ok n) named named' i places unknown pushed is =
    ap (λ (xs : List Named). number_in (names_of xs) i) pushed
    ∙ ap (λ ns. number_in ns i) (map-append (λ (x : Named). x.0) named ((i, places) ∷ []))
    ∙ number_pushed (names_of named) i i (sym unknown)
    ∙ ap (λ b. cond b (Some (length (names_of named))) None) ((bytes_eq-Decides i i).1 refl)
    ∙ ap Some (length-map named (λ (x : Named). x.0) ∙ sym is)

-- what is looked up by number
pub places_there : (named : List Named) (n : ℕ) (name places i : List ℕ) → Some (name, places) ≡ slice_get named n → lookup (same_item name) named ≡ Some places → slice_get (names_of named) n ≡ Some i → places ≡ or_none (item_places named i)
places_there named n name places i stands found is =
    let same : name ≡ i = some_is name i (ap (option_map (λ (z : Named). z.0)) stands ∙ sym (slice_get-map (λ (z : Named). z.0) named n) ∙ is) in
    sym (kept_all places) ∙ ap or_none (sym (places_found named name places found)) ∙ ap (λ j. or_none (item_places named j)) same

pub no_places_there : (named : List Named) (n : ℕ) (i : List ℕ) → slice_get named n ≡ None → slice_get (names_of named) n ≡ Some i → [] ≡ or_none (item_places named i)
no_places_there named n i none is = none_is i (sym (slice_get-map (λ (z : Named). z.0) named n ∙ ap (option_map (λ (z : Named). z.0)) none) ∙ is)
