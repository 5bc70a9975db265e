-- What a list has, and what a list that is made of it has.
use Rattle.std.proofs.Common.{◌≡◌, ◌⊎◌, ℕ, zero, suc, List, [], ◌∷◌, ◌++◌, Contains, Bool, true, false, Option, Some, None, bytes_eq, cond, map, inl, inr, refl, sym, ap, ◌∙◌, subst, arith, if◌then◌else◌}
use Rattle.std.specs.Prelude.{◌||◌, filter}
use Rattle.std.specs.List.{cons_option, filter_map, flat_map, list_any}
use Rattle.std.proofs.lemmas.List.Elements.{Contains-append_cases, Contains-append_left, Contains-append_right, Contains-push, Contains-push_cases}
use Rattle.std.proofs.lemmas.Slice.Eq.{bytes_eq-Decides}
use Rattle.document_convert.specs.UnitLots.{distinct_from, with_new}

pub here : {X : Type 0} (x : X) (xs : List X) → Contains (x ∷ xs) x
here x xs = (0, omega arith, refl)

pub there : {X : Type 0} (y x : X) (xs : List X) → Contains xs x → Contains (y ∷ xs) x
there y x xs (k, few, is) = (suc k, omega (arith, few), is)

pub cases : {X : Type 0} (x y : X) (xs : List X) → Contains (x ∷ xs) y → (x ≡ y) ⊎ Contains xs y
cases x y xs (zero, few, is) = inl is
cases x y xs (suc k, few, is) = inr (k, omega (arith, few), is)

pub none_has : {X : Type 0} (x : X) → Contains [] x → ⊥
none_has x (k, few, is) = omega (arith, few)

-- ---- filtered

pub has_filter : {X : Type 0} (p : X → Bool) (xs : List X) (x : X) → Contains xs x → p x ≡ true → Contains (filter p xs) x
has_filter p [] x has is = absurd (none_has x has)
has_filter p (y ∷ ys) x has is = by (p y) refl (cases y x ys has) (λ later. has_filter p ys x later is)
  where
    by : (b : Bool) → p y ≡ b → (y ≡ x) ⊎ Contains ys x → (Contains ys x → Contains (filter p ys) x) → Contains (cond b (y ∷ filter p ys) (filter p ys)) x
    by true e (inl same) below = subst (λ z. Contains (y ∷ filter p ys) z) same (here y (filter p ys))
    by true e (inr later) below = there y x (filter p ys) (below later)
    by false e (inl same) below = let no : false ≡ true = sym e ∙ ap p same ∙ is in cc
    by false e (inr later) below = below later

pub from_filter : {X : Type 0} (p : X → Bool) (xs : List X) (x : X) → Contains (filter p xs) x → Contains xs x × (p x ≡ true)
from_filter p [] x has = absurd (none_has x has)
from_filter p (y ∷ ys) x has = by (p y) refl has (λ later. from_filter p ys x later)
  where
    more : Contains ys x × (p x ≡ true) → Contains (y ∷ ys) x × (p x ≡ true)
    more (later, is) = (there y x ys later, is)

    split : p y ≡ true → (y ≡ x) ⊎ Contains (filter p ys) x → (Contains (filter p ys) x → Contains ys x × (p x ≡ true)) → Contains (y ∷ ys) x × (p x ≡ true)
    split e (inl same) below = (subst (λ z. Contains (y ∷ ys) z) same (here y ys), sym (ap p same) ∙ e)
    split e (inr later) below = more (below later)

    by : (b : Bool) → p y ≡ b → Contains (cond b (y ∷ filter p ys) (filter p ys)) x → (Contains (filter p ys) x → Contains ys x × (p x ≡ true)) → Contains (y ∷ ys) x × (p x ≡ true)
    by true e h below = split e (cases y x (filter p ys) h) below
    by false e h below = more (below h)

-- ---- mapped

pub has_map : {X Y : Type 0} (f : X → Y) (xs : List X) (x : X) → Contains xs x → Contains (map f xs) (f x)
has_map f [] x has = absurd (none_has x has)
has_map f (y ∷ ys) x has = by (cases y x ys has) (λ later. has_map f ys x later)
  where
    by : (y ≡ x) ⊎ Contains ys x → (Contains ys x → Contains (map f ys) (f x)) → Contains (f y ∷ map f ys) (f x)
    by (inl same) below = subst (λ z. Contains (f y ∷ map f ys) (f z)) same (here (f y) (map f ys))
    by (inr later) below = there (f y) (f x) (map f ys) (below later)

pub from_map : {X Y : Type 0} (f : X → Y) (xs : List X) (y : Y) → Contains (map f xs) y → (x : X) × Contains xs x × (f x ≡ y)
from_map f [] y has = absurd (none_has y has)
from_map {X} f (x ∷ xs) y has = by (cases (f x) y (map f xs) has) (λ later. from_map f xs y later)
  where
    more : (z : X) × Contains xs z × (f z ≡ y) → (z : X) × Contains (x ∷ xs) z × (f z ≡ y)
    more (z, later, is) = (z, there x z xs later, is)

    by : (f x ≡ y) ⊎ Contains (map f xs) y → (Contains (map f xs) y → (z : X) × Contains xs z × (f z ≡ y)) → (z : X) × Contains (x ∷ xs) z × (f z ≡ y)
    by (inl same) below = (x, here x xs, same)
    by (inr later) below = more (below later)

pub has_filter_map : {X Y : Type 0} (f : X → Option Y) (xs : List X) (x : X) (y : Y) → Contains xs x → f x ≡ Some y → Contains (filter_map f xs) y
has_filter_map f [] x y has is = absurd (none_has x has)
has_filter_map {X} {Y} f (z ∷ zs) x y has is = by (f z) refl (cases z x zs has) (λ later. has_filter_map f zs x y later is)
  where
    by : (o : Option Y) → f z ≡ o → (z ≡ x) ⊎ Contains zs x → (Contains zs x → Contains (filter_map f zs) y) → Contains (cons_option o (filter_map f zs)) y
    by None e (inl same) below = let no : ◌≡◌ {A = Option Y} None (Some y) = sym e ∙ ap f same ∙ is in cc
    by None e (inr later) below = below later
    by (Some w) e (inl same) below =
        let first : Some w ≡ Some y = sym e ∙ ap f same ∙ is in
        let it : w ≡ y = cc in
        subst (λ v. Contains (w ∷ filter_map f zs) v) it (here w (filter_map f zs))
    by (Some w) e (inr later) below = there w y (filter_map f zs) (below later)

pub from_filter_map : {X Y : Type 0} (f : X → Option Y) (xs : List X) (y : Y) → Contains (filter_map f xs) y → (x : X) × Contains xs x × (f x ≡ Some y)
from_filter_map f [] y has = absurd (none_has y has)
from_filter_map {X} {Y} f (z ∷ zs) y has = by (f z) refl has (λ later. from_filter_map f zs y later)
  where
    more : (x : X) × Contains zs x × (f x ≡ Some y) → (x : X) × Contains (z ∷ zs) x × (f x ≡ Some y)
    more (x, later, is) = (x, there z x zs later, is)

    split : (w : Y) → f z ≡ Some w → (w ≡ y) ⊎ Contains (filter_map f zs) y → (Contains (filter_map f zs) y → (x : X) × Contains zs x × (f x ≡ Some y))
        → (x : X) × Contains (z ∷ zs) x × (f x ≡ Some y)
    split w e (inl same) below = (z, here z zs, e ∙ ap Some same)
    split w e (inr later) below = more (below later)

    by : (o : Option Y) → f z ≡ o → Contains (cons_option o (filter_map f zs)) y → (Contains (filter_map f zs) y → (x : X) × Contains zs x × (f x ≡ Some y))
        → (x : X) × Contains (z ∷ zs) x × (f x ≡ Some y)
    by None e h below = more (below h)
    by (Some w) e h below = split w e (cases w y (filter_map f zs) h) below

pub has_flat_map : {X Y : Type 0} (f : X → List Y) (xs : List X) (x : X) (y : Y) → Contains xs x → Contains (f x) y → Contains (flat_map f xs) y
has_flat_map f [] x y has its = absurd (none_has x has)
has_flat_map f (z ∷ zs) x y has its = by (cases z x zs has) (λ later. has_flat_map f zs x y later its)
  where
    by : (z ≡ x) ⊎ Contains zs x → (Contains zs x → Contains (flat_map f zs) y) → Contains (f z ++ flat_map f zs) y
    by (inl same) below = Contains-append_left (f z) (flat_map f zs) y (subst (λ v. Contains (f v) y) (sym same) its)
    by (inr later) below = Contains-append_right (f z) (flat_map f zs) y (below later)

pub from_flat_map : {X Y : Type 0} (f : X → List Y) (xs : List X) (y : Y) → Contains (flat_map f xs) y → (x : X) × Contains xs x × Contains (f x) y
from_flat_map f [] y has = absurd (none_has y has)
from_flat_map {X} f (z ∷ zs) y has = by (Contains-append_cases (f z) (flat_map f zs) y has) (λ later. from_flat_map f zs y later)
  where
    more : (x : X) × Contains zs x × Contains (f x) y → (x : X) × Contains (z ∷ zs) x × Contains (f x) y
    more (x, later, its) = (x, there z x zs later, its)

    by : Contains (f z) y ⊎ Contains (flat_map f zs) y → (Contains (flat_map f zs) y → (x : X) × Contains zs x × Contains (f x) y) → (x : X) × Contains (z ∷ zs) x × Contains (f x) y
    by (inl first) below = (z, here z zs, first)
    by (inr later) below = more (below later)

-- ---- each once

any_has : (text : List ℕ) (xs : List (List ℕ)) → list_any (bytes_eq text) xs ≡ true → Contains xs text
any_has text [] is = cc
any_has text (x ∷ xs) is = by (bytes_eq text x) refl is (λ i. any_has text xs i)
  where
    by : (b : Bool) → bytes_eq text x ≡ b → (b || list_any (bytes_eq text) xs) ≡ true → (list_any (bytes_eq text) xs ≡ true → Contains xs text) → Contains (x ∷ xs) text
    by true e i below = subst (λ z. Contains (x ∷ xs) z) (sym ((bytes_eq-Decides text x).0 e)) (here x xs)
    by false e i below = there x text xs (below i)

kept_new : (seen : List (List ℕ)) (text x : List ℕ) → Contains seen x → Contains (with_new seen text) x
kept_new seen text x has = by (list_any (bytes_eq text) seen)
  where
    by : (b : Bool) → Contains (if b then seen else seen ++ text ∷ []) x
    by true = has
    by false = Contains-append_left seen (text ∷ []) x has

has_new : (seen : List (List ℕ)) (text : List ℕ) → Contains (with_new seen text) text
has_new seen text = by (list_any (bytes_eq text) seen) refl
  where
    by : (b : Bool) → list_any (bytes_eq text) seen ≡ b → Contains (if b then seen else seen ++ text ∷ []) text
    by true e = any_has text seen e
    by false e = Contains-push seen text

from_new : (seen : List (List ℕ)) (text x : List ℕ) → Contains (with_new seen text) x → Contains seen x ⊎ (text ≡ x)
from_new seen text x has = by (list_any (bytes_eq text) seen) has
  where
    by : (b : Bool) → Contains (if b then seen else seen ++ text ∷ []) x → Contains seen x ⊎ (text ≡ x)
    by true h = inl h
    by false h = Contains-push_cases seen text x h

pub has_distinct : (seen xs : List (List ℕ)) (x : List ℕ) → Contains seen x ⊎ Contains xs x → Contains (distinct_from seen xs) x
has_distinct seen [] x (inl has) = has
has_distinct seen [] x (inr has) = absurd (none_has x has)
has_distinct seen (y ∷ ys) x (inl has) = has_distinct (with_new seen y) ys x (inl (kept_new seen y x has))
has_distinct seen (y ∷ ys) x (inr has) = has_distinct (with_new seen y) ys x (by (cases y x ys has))
  where
    by : (y ≡ x) ⊎ Contains ys x → Contains (with_new seen y) x ⊎ Contains ys x
    by (inl same) = inl (subst (λ z. Contains (with_new seen y) z) same (has_new seen y))
    by (inr later) = inr later

pub from_distinct : (seen xs : List (List ℕ)) (x : List ℕ) → Contains (distinct_from seen xs) x → Contains seen x ⊎ Contains xs x
from_distinct seen [] x has = inl has
from_distinct seen (y ∷ ys) x has = by (from_distinct (with_new seen y) ys x has)
  where
    of_new : Contains seen x ⊎ (y ≡ x) → Contains seen x ⊎ Contains (y ∷ ys) x
    of_new (inl h) = inl h
    of_new (inr same) = inr (subst (λ z. Contains (y ∷ ys) z) same (here y ys))

    by : Contains (with_new seen y) x ⊎ Contains ys x → Contains seen x ⊎ Contains (y ∷ ys) x
    by (inl h) = of_new (from_new seen y x h)
    by (inr later) = inr (there y x ys later)
