-- Names by number.
use Rattle.std.proofs.Common.{◌≡◌, ◌<◌, ℕ, zero, suc, Bool, true, false, cond, ◌||◌, List, [], ◌∷◌, ◌++◌, Option, Some, None, length, slice_get, option_map, is_some, unwrap_or, refl, sym, ap, subst, ◌∙◌, inl, inr, ⊎_elim, append-nil, append_assoc, arith}
use mathlib.Core.Bool.{false≢true}
use mathlib.Core.Logic.{◌⊎◌}
use Rattle.std.specs.List.{list_any, flat_map, Contains}
use Rattle.std.proofs.lemmas.Grind.{flat_map-append}
use Rattle.std.proofs.lemmas.List.Folds.{list_any-append}
use Rattle.std.proofs.lemmas.Option.{slice_get_within}
use Rattle.std.proofs.lemmas.Slice.Eq.{bytes_eq-Decides}
use Rattle.event_json.specs.Events.{Content}
use Rattle.trace_core.specs.Numbers.{number_in, with_name, with_names, numbered, AreApart, numbers_of}
use Rattle.trace_core.specs.PairTests.{lists, same_item}
use Rattle.trace_core.specs.Places.{names_item}
use Rattle.trace_core.specs.Spreads.{items_of}
use Rattle.trace_core.proofs.Booleans.{or_false}
use Rattle.trace_core.proofs.Members.{contains_here, contains_there}

pub some_is : {X : Type 0} (a b : X) → Some a ≡ Some b → a ≡ b
some_is a b h = cc

pub none_is : {X P : Type 0} (a : X) → None ≡ Some a → P
none_is a h = absurd (apart a h)
  where
    apart : {X : Type 0} (a : X) → None ≡ Some a → ⊥
    apart a h = cc

-- an item that is there keeps its number
pub number_stays : (xs ys : List (List ℕ)) (i : List ℕ) (n : ℕ) → number_in xs i ≡ Some n → number_in (xs ++ ys) i ≡ Some n
number_stays [] ys i n h = none_is n h
number_stays (x ∷ xs) ys i n h = carried (same_item x i) (number_in xs i) (number_in (xs ++ ys) i) (λ m. number_stays xs ys i m) h
  where
    carried : (b : Bool) (o o' : Option ℕ) → ((m : ℕ) → o ≡ Some m → o' ≡ Some m) → cond b (Some 0) (option_map suc o) ≡ Some n → cond b (Some 0) (option_map suc o') ≡ Some n
    carried true o o' k e = e
    carried false None o' k e = none_is n e
    carried false (Some m) o' k e = ap (option_map suc) (k m refl) ∙ e

-- a new one has the next number
pub number_pushed : (xs : List (List ℕ)) (x i : List ℕ) → number_in xs i ≡ None → number_in (xs ++ x ∷ []) i ≡ cond (same_item x i) (Some (length xs)) None
number_pushed [] x i h = refl
number_pushed (y ∷ ys) x i h = step (same_item y i) (number_in ys i) (number_in (ys ++ x ∷ []) i) (same_item x i) h (number_pushed ys x i)
  where
    one_more : (c : Bool) (n : ℕ) → option_map suc (cond c (Some n) None) ≡ cond c (Some (suc n)) None
    one_more true n = refl
    one_more false n = refl

    step : (b : Bool) (o o' : Option ℕ) (c : Bool) → cond b (Some 0) (option_map suc o) ≡ None → (o ≡ None → o' ≡ cond c (Some (length ys)) None) → cond b (Some 0) (option_map suc o') ≡ cond c (Some (suc (length ys))) None
    step true o o' c e k = none_is 0 (sym e)
    step false None o' c e k = ap (option_map suc) (k refl) ∙ one_more c (length ys)
    step false (Some m) o' c e k = none_is (suc m) (sym e)

-- the item of a number
pub number_stands : (xs : List (List ℕ)) (i : List ℕ) (n : ℕ) → number_in xs i ≡ Some n → slice_get xs n ≡ Some i
number_stands [] i n h = none_is n h
number_stands (x ∷ xs) i n h = at (same_item x i) (number_in xs i) (λ same. (bytes_eq-Decides x i).0 same) (λ m. number_stands xs i m) h
  where
    at : (b : Bool) (o : Option ℕ) → (b ≡ true → x ≡ i) → ((m : ℕ) → o ≡ Some m → slice_get xs m ≡ Some i) → cond b (Some 0) (option_map suc o) ≡ Some n → slice_get (x ∷ xs) n ≡ Some i
    at true o same there e = subst (λ k. slice_get (x ∷ xs) k ≡ Some i) (some_is 0 n e) (ap Some (same refl))
    at false None same there e = none_is n e
    at false (Some m) same there e = subst (λ k. slice_get (x ∷ xs) k ≡ Some i) (some_is (suc m) n e) (there m refl)

pub known_number : (xs : List (List ℕ)) (i : List ℕ) → is_some (number_in xs i) ≡ lists xs i
known_number [] i = refl
known_number (x ∷ xs) i = either (same_item x i) (number_in xs i) ∙ ap (λ b. same_item x i || b) (known_number xs i)
  where
    either : (b : Bool) (o : Option ℕ) → is_some (cond b (Some 0) (option_map suc o)) ≡ (b || is_some o)
    either true o = refl
    either false None = refl
    either false (Some m) = refl

pub some_of : {X : Type 0} (o : Option X) → is_some o ≡ true → (x : X) × (o ≡ Some x)
some_of None h = absurd (false≢true h)
some_of (Some x) h = (x, refl)

pub none_of : {X : Type 0} (o : Option X) → is_some o ≡ false → o ≡ None
none_of None h = refl
none_of (Some x) h = absurd (false≢true (sym h))

pub listed_number : (xs : List (List ℕ)) (i : List ℕ) → lists xs i ≡ true → (n : ℕ) × (number_in xs i ≡ Some n)
listed_number xs i h = some_of (number_in xs i) (known_number xs i ∙ h)

pub no_number : (xs : List (List ℕ)) (i : List ℕ) → lists xs i ≡ false → number_in xs i ≡ None
no_number xs i h = none_of (number_in xs i) (known_number xs i ∙ h)

pub number_listed : (xs : List (List ℕ)) (i : List ℕ) (n : ℕ) → number_in xs i ≡ Some n → lists xs i ≡ true
number_listed xs i n h = sym (known_number xs i) ∙ ap is_some h

pub unnumbered : (xs : List (List ℕ)) (i : List ℕ) → number_in xs i ≡ None → lists xs i ≡ false
unnumbered xs i h = sym (known_number xs i) ∙ ap is_some h

-- an element of a list that has one more
pub slice_pushed : {X : Type 0} (xs : List X) (x : X) (n : ℕ) (y : X) → slice_get (xs ++ x ∷ []) n ≡ Some y → (slice_get xs n ≡ Some y) ⊎ ((n ≡ length xs) × (x ≡ y))
slice_pushed [] x zero y h = inr (refl, some_is x y h)
slice_pushed [] x (suc n) y h = none_is y h
slice_pushed (z ∷ zs) x zero y h = inl h
slice_pushed (z ∷ zs) x (suc n) y h = ⊎_elim (λ before. inl before) (λ (last, is). inr (ap suc last, is)) (slice_pushed zs x n y h)

pub slice_stays : {X : Type 0} (xs ys : List X) (n : ℕ) (y : X) → slice_get xs n ≡ Some y → slice_get (xs ++ ys) n ≡ Some y
slice_stays [] ys n y h = none_is y h
slice_stays (x ∷ xs) ys zero y h = h
slice_stays (x ∷ xs) ys (suc n) y h = slice_stays xs ys n y h

pub slice_last : {X : Type 0} (xs : List X) (x : X) → slice_get (xs ++ x ∷ []) (length xs) ≡ Some x
slice_last [] x = refl
slice_last (y ∷ ys) x = slice_last ys x

pub apart_pushed : (names : List (List ℕ)) (i : List ℕ) → AreApart names → lists names i ≡ false → AreApart (names ++ i ∷ [])
apart_pushed names i apart new n j h = ⊎_elim
    (λ before. number_stays names (i ∷ []) j n (apart n j before))
    (λ (last, is).
    subst (λ k. number_in (names ++ i ∷ []) k ≡ Some n) is (number_pushed names i i (no_number names i new)
    ∙ ap (λ b. cond b (Some (length names)) None) ((bytes_eq-Decides i i).1 refl) ∙ ap Some (sym last)))
    (slice_pushed names i n j h)

-- the first names alone
pub apart_front : (names : List (List ℕ)) (i : List ℕ) → AreApart (names ++ i ∷ []) → AreApart names
apart_front names i apart n j h = at (number_in names j) refl
  where
    there : number_in (names ++ i ∷ []) j ≡ Some n
    there = apart n j (slice_stays names (i ∷ []) n j h)

    below : n < length names
    below = slice_get_within names n j h

    last_of : (b : Bool) → cond b (Some (length names)) None ≡ Some n → length names ≡ n
    last_of true e = some_is (length names) n e
    last_of false e = none_is n e

    at : (o : Option ℕ) → number_in names j ≡ o → number_in names j ≡ Some n
    at None none = absurd (omega (arith, below, last_of (same_item i j) (sym (number_pushed names i j none) ∙ there)))
    at (Some m) some = some ∙ sym (number_stays names (i ∷ []) j m some) ∙ there

-- the last of names that are apart isn't among the others
pub last_is_new : (names : List (List ℕ)) (i : List ℕ) → AreApart (names ++ i ∷ []) → number_in names i ≡ None
last_is_new names i apart = at (number_in names i) refl
  where
    there : number_in (names ++ i ∷ []) i ≡ Some (length names)
    there = apart (length names) i (slice_last names i)

    at : (o : Option ℕ) → number_in names i ≡ o → number_in names i ≡ None
    at None none = none
    at (Some m) some =
        let same : m ≡ length names = some_is m (length names) (sym (number_stays names (i ∷ []) i m some) ∙ there) in
        absurd (omega (arith, same, slice_get_within names m i (number_stands names i m some)))

by_listed : (P : Bool → Type 0) (b : Bool) → (b ≡ true → P true) → (b ≡ false → P false) → P b
by_listed P true there new = there refl
by_listed P false there new = new refl

apart_with : (names : List (List ℕ)) (i : List ℕ) → AreApart names → AreApart (with_name names i)
apart_with names i apart = by_listed (λ b. AreApart (cond b names (names ++ i ∷ []))) (lists names i) (λ known. apart) (λ new. apart_pushed names i apart new)

pub apart_more : (items names : List (List ℕ)) → AreApart names → AreApart (with_names names items)
apart_more [] names apart = apart
apart_more (i ∷ is) names apart = apart_more is (with_name names i) (apart_with names i apart)

-- one name more
pub with_one : (names : List (List ℕ)) (i : List ℕ) → (more : List (List ℕ)) × (with_name names i ≡ names ++ more)
with_one names i = by_listed (λ b. (more : List (List ℕ)) × (cond b names (names ++ i ∷ []) ≡ names ++ more)) (lists names i) (λ known. ([], sym (append-nil names))) (λ new. (i ∷ [], refl))

-- names come at the end
pub with_more : (items names : List (List ℕ)) → (more : List (List ℕ)) × (with_names names items ≡ names ++ more)
with_more [] names = ([], sym (append-nil names))
with_more (i ∷ is) names =
    let (one, first) = with_one names i in
    let (rest, then) = with_more is (with_name names i) in
    (one ++ rest, then ∙ ap (λ z. z ++ rest) first ∙ append_assoc names one rest)

pub with_names-append : (xs names ys : List (List ℕ)) → with_names names (xs ++ ys) ≡ with_names (with_names names xs) ys
with_names-append [] names ys = refl
with_names-append (x ∷ xs) names ys = with_names-append xs (with_name names x) ys

lists_one : (names : List (List ℕ)) (k i : List ℕ) → lists (with_name names k) i ≡ (lists names i || same_item k i)
lists_one names k i = by_listed (λ b. lists (cond b names (names ++ k ∷ [])) i ≡ (lists names i || same_item k i)) (lists names k)
    (λ known. by_listed (λ b. lists names i ≡ (lists names i || b)) (same_item k i)
    (λ same. let there : lists names i ≡ true = subst (λ j. lists names j ≡ true) ((bytes_eq-Decides k i).0 same) known in there ∙ sym (ap (λ b. b || true) there))
    (λ other. sym (or_false (lists names i))))
    (λ new. list_any-append (λ j. same_item j i) names (k ∷ []) ∙ ap (λ b. lists names i || b) (or_false (same_item k i)))

or_thrice : (a b c : Bool) → ((a || b) || c) ≡ (a || (b || c))
or_thrice true b c = refl
or_thrice false b c = refl

pub lists_with : (items names : List (List ℕ)) (i : List ℕ) → lists (with_names names items) i ≡ (lists names i || lists items i)
lists_with [] names i = sym (or_false (lists names i))
lists_with (k ∷ ks) names i = lists_with ks (with_name names k) i ∙ ap (λ b. b || lists ks i) (lists_one names k i) ∙ or_thrice (lists names i) (same_item k i) (lists ks i)

lists_flat : (i : List ℕ) (events : List Content) → lists (flat_map (λ e. items_of e.body) events) i ≡ list_any (names_item i) events
lists_flat i [] = refl
lists_flat i (e ∷ es) = list_any-append (λ j. same_item j i) (items_of e.body) (flat_map (λ e. items_of e.body) es) ∙ ap (λ b. lists (items_of e.body) i || b) (lists_flat i es)

-- the numbered items are those that events name
pub numbered_named : (events : List Content) (i : List ℕ) → lists (numbered events) i ≡ list_any (names_item i) events
unfolding numbered
numbered_named events i = lists_with (flat_map (λ e. items_of e.body) events) [] i ∙ lists_flat i events

-- each has its number
pub numbered_apart : (events : List Content) → AreApart (numbered events)
unfolding numbered
numbered_apart events = apart_more (flat_map (λ e. items_of e.body) events) [] (λ n i h. none_is i h)

-- the number of a name that is there
pub number_or : (names : List (List ℕ)) (j : List ℕ) → lists names j ≡ true → slice_get names (unwrap_or (number_in names j) 0) ≡ Some j
number_or names j known = let (n, is) = listed_number names j known in ap (λ o. slice_get names (unwrap_or o 0)) is ∙ number_stands names j n is

-- one more event
pub numbered_more : (events : List Content) (e : Content) → numbered (events ++ e ∷ []) ≡ with_names (numbered events) (items_of e.body)
unfolding numbered
numbered_more events e =
    ap (with_names []) (flat_map-append (λ e. items_of e.body) events (e ∷ []) ∙ ap (λ z. flat_map (λ e. items_of e.body) events ++ z) (append-nil (items_of e.body)))
    ∙ with_names-append (flat_map (λ e. items_of e.body) events) [] (items_of e.body)

pub none_numbered : numbered [] ≡ []
unfolding numbered
none_numbered = refl

-- known items keep their numbers as names come
pub numbers_stay : (names more items : List (List ℕ)) → ((i : List ℕ) → Contains items i → lists names i ≡ true) → numbers_of (names ++ more) items ≡ numbers_of names items
numbers_stay names more [] known = refl
numbers_stay names more (i ∷ is) known =
    let (n, is_n) = listed_number names i (known i (contains_here i is)) in
    ap (λ o. unwrap_or o 0 ∷ numbers_of (names ++ more) is) (number_stays names more i n is_n ∙ sym is_n)
    ∙ ap (λ ns. unwrap_or (number_in names i) 0 ∷ ns) (numbers_stay names more is (λ j h. known j (contains_there i j is h)))
