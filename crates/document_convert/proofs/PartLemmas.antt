-- Parts by their numbers, and what stands in each.
use Rattle.std.proofs.Common.{◌≡◌, ◌⊎◌, ◌≤◌, ◌<◌, ℕ, zero, suc, ◌+◌, ◌-◌, ◌*◌, Bool, true, false, ltb, Contains, List, [], ◌∷◌, ◌++◌, Option, Some, None, bytes_eq, codes, drop, length, map, take, inl, inr, refl, sym, ap, subst, ◌∙◌, arith}
use Rattle.std.specs.Prelude.{option_and_then, unwrap_or}
use Rattle.std.specs.List.{enumerate_from, flat_map}
use Rattle.std.proofs.lemmas.Bool.{ltb-false, ltb-true}
use Rattle.std.proofs.lemmas.List.{drop-drop, length-drop, length-take, take_all}
use Rattle.std.proofs.lemmas.Nat.{div-add-mod', mod_below}
use Rattle.std.proofs.lemmas.Slice.Eq.{bytes_eq-Decides}
use Rattle.serde_json.specs.Data.{Data, array, string, no_items}
use Rattle.serde_json.specs.Find.{as_array, get}
use Rattle.serde_json.specs.View.{items_of}
use Rattle.event_json.specs.Members.{member_named, present}
use Rattle.event_json.specs.Untraced.{in_order}
use Rattle.document_convert.specs.Parted.{members_at, numbers, of_each, part_id, thousand, thousands, with_event_id, with_list, with_part_id}
use Rattle.document_convert.proofs.Has.{cases, here, none_has, there}
use Rattle.document_convert.proofs.Lists.{listed_back}
use Rattle.document_convert.proofs.Members.{other_member}
use Rattle.document_convert.proofs.MovedLaws.{others_without, set_there}

-- two names
pub apart : (a b : List ℕ) → bytes_eq a b ≡ false → a ≡ b → ⊥
apart a b differs same = let never : true ≡ false = sym ((bytes_eq-Decides a b).1 same) ∙ differs in cc

-- ---- what is made of each number

numbers_at : {X : Type 0} (f : ℕ → X) (k n : ℕ) (before behind : List X) (e : X) → map f (numbers k n) ≡ before ++ e ∷ behind → f (k + length before) ≡ e
numbers_at f k zero [] behind e is = cc
numbers_at f k zero (b ∷ bs) behind e is = cc
numbers_at f k (suc n) [] behind e is =
    let same : f k ≡ e = cc in
    let here_it : k + 0 ≡ k = omega arith in
    ap f here_it ∙ same
numbers_at f k (suc n) (b ∷ bs) behind e is =
    let rest : map f (numbers (k + 1) n) ≡ bs ++ e ∷ behind = cc in
    let later : k + length (b ∷ bs) ≡ (k + 1) + length bs = omega arith in
    ap f later ∙ numbers_at f (k + 1) n bs behind e rest

-- the one behind so many is made of that number
pub each_at : {X : Type 0} (f : ℕ → X) (n : ℕ) (before behind : List X) (e : X) → of_each f n ≡ before ++ e ∷ behind → f (length before) ≡ e
each_at f n before behind e is = let same : length before ≡ 0 + length before = omega arith in ap f same ∙ numbers_at f 0 n before behind e is

numbers_has : (k n m : ℕ) → k ≤ m → m < k + n → Contains (numbers k n) m
numbers_has k zero m low high = absurd (omega (arith, low, high))
numbers_has k (suc n) m low high = by (ltb k m) refl (numbers_has (k + 1) n m)
  where
    by : (b : Bool) → ltb k m ≡ b → (k + 1 ≤ m → m < (k + 1) + n → Contains (numbers (k + 1) n) m) → Contains (k ∷ numbers (k + 1) n) m
    by true is later = there k m (numbers (k + 1) n) (later (omega (arith, ltb-true k m is)) (omega (arith, high)))
    by false is later =
        let same : k ≡ m = omega (arith, low, ltb-false k m is) in
        subst (λ x. Contains (k ∷ numbers (k + 1) n) x) same (here k (numbers (k + 1) n))

pub below_has : (n m : ℕ) → m < n → Contains (numbers 0 n) m
below_has n m few = numbers_has 0 n m (omega arith) (omega (arith, few))

numbers_below : (k n m : ℕ) → Contains (numbers k n) m → m < k + n
numbers_below k zero m has = absurd (none_has m has)
numbers_below k (suc n) m has = by (cases k m (numbers (k + 1) n) has) (numbers_below (k + 1) n m)
  where
    by : (k ≡ m) ⊎ Contains (numbers (k + 1) n) m → (Contains (numbers (k + 1) n) m → m < (k + 1) + n) → m < k + suc n
    by (inl same) below = omega (arith, same)
    by (inr later) below = let low = below later in omega (arith, low)

-- ---- numbered ones

pub from_enumerate : {X : Type 0} (n : ℕ) (xs : List X) (m : ℕ) (x : X) → Contains (enumerate_from n xs) (m, x) → Contains xs x
from_enumerate n [] m x has = absurd (none_has (m, x) has)
from_enumerate {X} n (y ∷ ys) m x has = by (cases (n, y) (m, x) (enumerate_from (n + 1) ys) has) (from_enumerate (n + 1) ys m x)
  where
    by : (◌≡◌ {A = ℕ × X} (n, y) (m, x)) ⊎ Contains (enumerate_from (n + 1) ys) (m, x) → (Contains (enumerate_from (n + 1) ys) (m, x) → Contains ys x) → Contains (y ∷ ys) x
    by (inl same) below = subst (λ z. Contains (y ∷ ys) z) (ap (λ (p : ℕ × X). p.1) same) (here y ys)
    by (inr later) below = there y x ys (below later)

pub has_enumerate : {X : Type 0} (n : ℕ) (xs : List X) (x : X) → Contains xs x → (m : ℕ) × Contains (enumerate_from n xs) (m, x)
has_enumerate n [] x has = absurd (none_has x has)
has_enumerate {X} n (y ∷ ys) x has = by (cases y x ys has) (has_enumerate (n + 1) ys x)
  where
    more : (m : ℕ) × Contains (enumerate_from (n + 1) ys) (m, x) → (m : ℕ) × Contains ((n, y) ∷ enumerate_from (n + 1) ys) (m, x)
    more (m, its) = (m, there (n, y) (m, x) (enumerate_from (n + 1) ys) its)

    by : (y ≡ x) ⊎ Contains ys x → (Contains ys x → (m : ℕ) × Contains (enumerate_from (n + 1) ys) (m, x)) → (m : ℕ) × Contains ((n, y) ∷ enumerate_from (n + 1) ys) (m, x)
    by (inl same) below = (n, subst (λ z. Contains ((n, y) ∷ enumerate_from (n + 1) ys) (n, z)) same (here (n, y) (enumerate_from (n + 1) ys)))
    by (inr later) below = more (below later)

-- one that stands behind so many, and what it was made of
pub record IsAt {X Y : Type 0} (g : ℕ × X → Y) (n : ℕ) (xs : List X) (before : List Y) (e : Y) : Type 0 where
  pub x : X
  pub front : List X
  pub back : List X
  pub stands : xs ≡ front ++ x ∷ back
  pub as_many : length front ≡ length before
  pub is : g (n + length before, x) ≡ e

pub enumerate_at : {X Y : Type 0} (g : ℕ × X → Y) (n : ℕ) (xs : List X) (before behind : List Y) (e : Y) → map g (enumerate_from n xs) ≡ before ++ e ∷ behind → IsAt g n xs before e
enumerate_at g n [] [] behind e is = cc
enumerate_at g n [] (b ∷ bs) behind e is = cc
enumerate_at g n (y ∷ ys) [] behind e is =
    let same : g (n, y) ≡ e = cc in
    let here_it : n + 0 ≡ n = omega arith in
    record { x = y; front = []; back = ys; stands = refl; as_many = refl; is = ap (λ k. g (k, y)) here_it ∙ same }
enumerate_at g n (y ∷ ys) (b ∷ bs) behind e is =
    let rest : map g (enumerate_from (n + 1) ys) ≡ bs ++ e ∷ behind = cc in
    let r = enumerate_at g (n + 1) ys bs behind e rest in
    let later : n + length (b ∷ bs) ≡ (n + 1) + length bs = omega arith in
    record { x = r.x; front = y ∷ r.front; back = r.back; stands = ap (λ l. y ∷ l) r.stands; as_many = ap suc r.as_many; is = ap (λ k. g (k, r.x)) later ∙ r.is }

-- one of one
pub single_at : {X : Type 0} (d e : X) (before behind : List X) → d ∷ [] ≡ before ++ e ∷ behind → (d ≡ e) × (before ≡ [])
single_at d e [] behind is = let same : d ≡ e = cc in (same, refl)
single_at d e (b ∷ []) behind is = cc
single_at d e (b ∷ c ∷ bs) behind is = cc

-- ---- thousands

split_at : {X : Type 0} (a b : ℕ) (xs : List X) → take (a + b) xs ≡ take a xs ++ take b (drop a xs)
split_at zero b xs = let same : 0 + b ≡ b = omega arith in ap (λ n. take n xs) same
split_at {X} (suc a) b [] =
    let empty : (n : ℕ) → take n (the_empty) ≡ the_empty = λ n. take_all n the_empty (omega arith) in
    empty (suc a + b) ∙ sym (empty b)
  where
    the_empty : List X
    the_empty = []
split_at (suc a) b (x ∷ xs) = let same : suc a + b ≡ suc (a + b) = omega arith in ap (λ n. take n (x ∷ xs)) same ∙ ap (λ l. x ∷ l) (split_at a b xs)

from_thousand : {X : Type 0} (xs : List X) (k n : ℕ) → flat_map (λ j. thousand j xs) (numbers k n) ≡ take (n * 1000) (drop (k * 1000) xs)
from_thousand xs k zero = refl
from_thousand xs k (suc n) =
    let next : (k + 1) * 1000 ≡ k * 1000 + 1000 = omega arith in
    let more : suc n * 1000 ≡ 1000 + n * 1000 = omega arith in
    let rest : take (n * 1000) (drop ((k + 1) * 1000) xs) ≡ take (n * 1000) (drop 1000 (drop (k * 1000) xs)) =
    ap (take (n * 1000)) (ap (λ m. drop m xs) next ∙ sym (drop-drop 1000 (k * 1000) xs)) in
    ap (λ l. thousand k xs ++ l) (from_thousand xs (k + 1) n ∙ rest)
    ∙ sym (ap (λ m. take m (drop (k * 1000) xs)) more ∙ split_at 1000 (n * 1000) (drop (k * 1000) xs))

-- one after another they are the list
pub thousands_all : {X : Type 0} (xs : List X) (n : ℕ) → length xs ≤ n * 1000 → flat_map (λ j. thousand j xs) (numbers 0 n) ≡ xs
thousands_all xs n few = from_thousand xs 0 n ∙ take_all (n * 1000) xs few

pub are_enough : (n : ℕ) → n ≤ thousands n * 1000
are_enough n =
    let whole = div-add-mod' (n - 1) 1000 in
    let rest = mod_below (n - 1) 1000 (omega arith) in
    omega (arith, whole, rest)

pub at_most : {X : Type 0} (k : ℕ) (xs : List X) → length (thousand k xs) ≤ 1000
at_most k xs = let n = length-take 1000 (drop (k * 1000) xs) in omega (arith, n)

-- and none that there is is empty
pub some_there : {X : Type 0} (xs : List X) (k : ℕ) → 0 < length xs → Contains (numbers 0 (thousands (length xs))) k → 0 < length (thousand k xs)
some_there xs k some has =
    let low = numbers_below 0 (thousands (length xs)) k has in
    let whole = div-add-mod' (length xs - 1) 1000 in
    let left = length-drop (k * 1000) xs in
    let n = length-take 1000 (drop (k * 1000) xs) in
    omega (arith, low, whole, left, n, some)

in_take : {X : Type 0} (n : ℕ) (xs : List X) (x : X) → Contains (take n xs) x → Contains xs x
in_take zero xs x has = absurd (none_has x has)
in_take (suc n) [] x has = has
in_take {X} (suc n) (y ∷ ys) x has = by (cases y x (take n ys) has) (in_take n ys x)
  where
    by : (y ≡ x) ⊎ Contains (take n ys) x → (Contains (take n ys) x → Contains ys x) → Contains (y ∷ ys) x
    by (inl same) below = subst (λ z. Contains (y ∷ ys) z) same (here y ys)
    by (inr later) below = there y x ys (below later)

in_drop : {X : Type 0} (n : ℕ) (xs : List X) (x : X) → Contains (drop n xs) x → Contains xs x
in_drop zero xs x has = has
in_drop (suc n) [] x has = has
in_drop (suc n) (y ∷ ys) x has = there y x ys (in_drop n ys x has)

-- what stands in one stands in the list
pub in_thousand : {X : Type 0} (k : ℕ) (xs : List X) (x : X) → Contains (thousand k xs) x → Contains xs x
in_thousand k xs x has = in_drop (k * 1000) xs x (in_take 1000 (drop (k * 1000) xs) x has)

-- what is read of each is the thousand of its number
pub flat_each : {X : Type 0} (h : Data → List X) (f : ℕ → Data) (xs : List X) → ((k : ℕ) → h (f k) ≡ thousand k xs) → (k n : ℕ)
    → flat_map h (map f (numbers k n)) ≡ flat_map (λ j. thousand j xs) (numbers k n)
flat_each h f xs each k zero = refl
flat_each h f xs each k (suc n) = λ i. each k i ++ flat_each h f xs each (k + 1) n i

-- ---- members

pub members_same : (name : List ℕ) (d found : Data) → get name found ≡ get name d → members_at name found ≡ members_at name d
members_same name d found is = ap (λ (o : Option Data). in_order (unwrap_or (option_and_then as_array (option_and_then present o)) no_items)) is

pub list_set : (name : List ℕ) (xs : List Data) (d v : Data) → member_named (codes "type") d ≡ Some v → members_at name (with_list name xs d) ≡ xs
list_set name xs d v there_it =
    ap (λ (o : Option Data). in_order (unwrap_or (option_and_then as_array (option_and_then present o)) no_items)) (set_there name (codes "type") (array (items_of xs)) d v there_it)
    ∙ listed_back xs

pub id_others : (id : Option (List ℕ)) (n : ℕ) (part : Data) (name : List ℕ) → (name ≡ codes "eventID" → ⊥) → get name (with_part_id id (n, part)) ≡ get name part
id_others None n part name other = refl
id_others (Some id) n part name other = by (part_id id n)
  where
    by : (o : Option (List ℕ)) → get name (with_event_id o part) ≡ get name part
    by None = others_without name (codes "eventID") part other
    by (Some text) = other_member name (codes "eventID") (string text) part other

-- the identifiers don't change the lists
pub numbered_lists : (id : Option (List ℕ)) (name : List ℕ) (n : ℕ) (ps : List Data) → (name ≡ codes "eventID" → ⊥)
    → flat_map (members_at name) (map (with_part_id id) (enumerate_from n ps)) ≡ flat_map (members_at name) ps
numbered_lists id name n [] other = refl
numbered_lists id name n (p ∷ ps) other =
    λ i. members_same name p (with_part_id id (n, p)) (id_others id n p name other) i ++ numbered_lists id name (n + 1) ps other i
