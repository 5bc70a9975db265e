-- The place of a text in a list of sites.
use Rattle.std.proofs.Common.{◌≡◌, ◌⊎◌, ℕ, Contains, Bool, true, false, List, [], ◌∷◌, ◌++◌, Option, Some, None, length, inl, inr, refl, sym, ap, ◌∙◌, subst, arith, length-append, if◌then◌else◌}
use mathlib.Core.Bool.{false≢true}
use Rattle.std.specs.Prelude.{◌||◌, bytes_eq}
use Rattle.std.specs.List.{cons_option, find, list_any}
use Rattle.std.specs.Option.{option_or}
use Rattle.std.proofs.lemmas.List.Elements.{Contains-append_cases, Contains-append_right, Contains-push_cases, filter_map-append}
use Rattle.std.proofs.lemmas.Bool.{lt-ltb}
use Rattle.std.proofs.lemmas.Option.{same_Some}
use Rattle.std.proofs.lemmas.Slice.Eq.{bytes_eq-Decides}
use Rattle.event_json.specs.Sites.{Site}
use Rattle.event_json.specs.Untraced.{is_text}
use Rattle.item_spellings.specs.Places.{are_one_place}
use Rattle.document_lint.specs.Locations.{location_of}
use Rattle.document_convert.specs.PlaceLaws.{AddressesStay, HasAddress, HasNoOne, HaveOneGln, HaveSeveral, IsAddress, IsOnly, NameOnePlace, OthersHaveNone, PlacesAreFound, PlacesAreListed}
use Rattle.document_convert.specs.Places.{first_addresses, is_address, is_of_several, name_one_gln, only_member, place_of}
use Rattle.document_convert.proofs.MovedLaws.{contains_none}

-- ---- what a list contains

pub contains_first : {X : Type 0} (x : X) (xs : List X) → Contains (x ∷ xs) x
contains_first x xs = (0, omega arith, refl)

pub contains_later : {X : Type 0} (y : X) (xs : List X) (x : X) → Contains xs x → Contains (y ∷ xs) x
contains_later y xs x has = Contains-append_right (y ∷ []) xs x has

pub first_or_later : {X : Type 0} (y : X) (xs : List X) (x : X) → Contains (y ∷ xs) x → (y ≡ x) ⊎ Contains xs x
first_or_later {X = X} y xs x has = by (Contains-append_cases (y ∷ []) xs x has)
  where
    of_one : Contains {X = X} [] x ⊎ (y ≡ x) → (y ≡ x) ⊎ Contains xs x
    of_one (inl never) = absurd (contains_none x never)
    of_one (inr same) = inl same

    by : Contains (y ∷ []) x ⊎ Contains xs x → (y ≡ x) ⊎ Contains xs x
    by (inl one) = of_one (Contains-push_cases [] y x one)
    by (inr later) = inr later

pub any_contained : {X : Type 0} (p : X → Bool) (xs : List X) (x : X) → Contains xs x → p x ≡ true → list_any p xs ≡ true
any_contained p [] x has passes = absurd (contains_none x has)
any_contained {X = X} p (y ∷ xs) x has passes = by (p y) refl (first_or_later y xs x has) (λ later. any_contained p xs x later passes)
  where
    by : (b : Bool) → p y ≡ b → (y ≡ x) ⊎ Contains xs x → (Contains xs x → list_any p xs ≡ true) → (b || list_any p xs) ≡ true
    by true e has on = refl
    by false e (inl same) on = absurd (false≢true (sym e ∙ ap p same ∙ passes))
    by false e (inr later) on = on later

pub none_contained : {X : Type 0} (p : X → Bool) (xs : List X) → ((x : X) → Contains xs x → p x ≡ false) → list_any p xs ≡ false
none_contained p [] none = refl
none_contained p (x ∷ xs) none = rw (none x (contains_first x xs)) (none_contained p xs (λ y has. none y (contains_later x xs y has)))

-- ---- what is found is an address that passes

find_is : (p : List ℕ → Bool) (xs : List (List ℕ)) (x : List ℕ) → find p xs ≡ Some x → Contains xs x × (p x ≡ true)
find_is p [] x is = cc
find_is p (y ∷ xs) x is = by (p y) refl is (find_is p xs x)
  where
    by : (b : Bool) → p y ≡ b → (if b then Some y else find p xs) ≡ Some x → (find p xs ≡ Some x → Contains xs x × (p x ≡ true)) → Contains (y ∷ xs) x × (p x ≡ true)
    by true e is on = subst (λ z. Contains (y ∷ xs) z × (p z ≡ true)) (same_Some _ _ is) (contains_first y xs, e)
    by false e is on = let found = on is in (contains_later y xs x found.0, found.1)

abbrev IsListed : (List ℕ → Bool) → List Site → List ℕ → Type 0
IsListed p sites a = IsAddress sites a × (p a ≡ true)

listed_later : (p : List ℕ → Bool) (s : Site) (sites : List Site) (a : List ℕ) → IsListed p sites a → IsListed p (s ∷ sites) a
listed_later p s sites a ((its, has, is), passes) = ((its, contains_later s sites its has, is), passes)

first_listed : (p : List ℕ → Bool) (sites : List Site) (a : List ℕ) → Contains (first_addresses p sites) a → IsListed p sites a
first_listed p [] a has = absurd (contains_none a has)
first_listed p (s ∷ sites) a has = by (find p s.addresses) refl has (λ later. listed_later p s sites a (first_listed p sites a later))
  where
    of_found : (x : List ℕ) → find p s.addresses ≡ Some x → (x ≡ a) ⊎ Contains (first_addresses p sites) a
        → (Contains (first_addresses p sites) a → IsListed p (s ∷ sites) a) → IsListed p (s ∷ sites) a
    of_found x is (inl same) on =
        let found = find_is p s.addresses a (is ∙ ap Some same) in
        ((s, contains_first s sites, found.0), found.1)
    of_found x is (inr later) on = on later

    by : (o : Option (List ℕ)) → find p s.addresses ≡ o → Contains (cons_option o (first_addresses p sites)) a
        → (Contains (first_addresses p sites) a → IsListed p (s ∷ sites) a) → IsListed p (s ∷ sites) a
    by None is has on = on has
    by (Some x) is has on = of_found x is (first_or_later x (first_addresses p sites) a has) on

only_contained : (xs : List (List ℕ)) (x : List ℕ) → only_member xs ≡ Some x → Contains xs x
only_contained [] x is = cc
only_contained (y ∷ []) x is = subst (λ z. Contains (y ∷ []) z) (same_Some y x is) (contains_first y [])
only_contained (y ∷ (z ∷ xs)) x is = cc

only_listed : (p : List ℕ → Bool) (sites : List Site) (a : List ℕ) → only_member (first_addresses p sites) ≡ Some a → IsListed p sites a
only_listed p sites a is = first_listed p sites a (only_contained (first_addresses p sites) a is)

-- ---- what is the same

have_one_gln : (a b : List ℕ) → name_one_gln a b ≡ true → HaveOneGln a b
have_one_gln a b is = by (location_of a) refl is
  where
    of_both : (gln : List ℕ) (o : Option (List ℕ)) → location_of a ≡ Some gln → location_of b ≡ o → is_text (bytes_eq gln) o ≡ true → HaveOneGln a b
    of_both gln None first second is = cc
    of_both gln (Some other) first second is = (gln, first, second ∙ ap Some (sym ((bytes_eq-Decides gln other).0 is)))

    by : (o : Option (List ℕ)) → location_of a ≡ o → is_text (λ gln. is_text (bytes_eq gln) (location_of b)) o ≡ true → HaveOneGln a b
    by None first is = cc
    by (Some gln) first is = of_both gln (location_of b) first refl is

any_is : {X : Type 0} (p : X → Bool) (xs : List X) → list_any p xs ≡ true → (x : X) × Contains xs x × (p x ≡ true)
any_is p [] is = cc
any_is {X = X} p (x ∷ xs) is = by (p x) refl is (any_is p xs)
  where
    by : (b : Bool) → p x ≡ b → (b || list_any p xs) ≡ true → (list_any p xs ≡ true → (y : X) × Contains xs y × (p y ≡ true))
        → (y : X) × Contains (x ∷ xs) y × (p y ≡ true)
    by true e is on = (x, contains_first x xs, e)
    by false e is on = let (y, has, passes) = on is in (y, contains_later x xs y has, passes)

is_its_own : (sites : List Site) (text : List ℕ) → is_address sites text ≡ true → IsAddress sites text
is_its_own sites text is =
    let (s, has, any) = any_is (λ (s : Site). list_any (bytes_eq text) s.addresses) sites is in
    let (a, its, same) = any_is (bytes_eq text) s.addresses any in
    (s, has, subst (λ t. Contains s.addresses t) (sym ((bytes_eq-Decides text a).0 same)) its)

is_there : (sites : List Site) (text : List ℕ) → IsAddress sites text → is_address sites text ≡ true
is_there sites text (s, has, its) =
    any_contained (λ (s : Site). list_any (bytes_eq text) s.addresses) sites s has
    (any_contained (bytes_eq text) s.addresses text its ((bytes_eq-Decides text text).1 refl))

-- ---- the place

pub addresses_stay : AddressesStay
unfolding place_of
addresses_stay sites text is = rw (is_there sites text is) refl

abbrev IsPlace : List Site → List ℕ → List ℕ → Type 0
IsPlace sites text a = IsAddress sites a × NameOnePlace text a

of_stages : (sites : List Site) (text a : List ℕ) (place : Option (List ℕ)) → only_member (first_addresses (are_one_place text) sites) ≡ place
    → option_or place (only_member (first_addresses (name_one_gln text) sites)) ≡ Some a → IsPlace sites text a
of_stages sites text a None first is =
    let found = only_listed (name_one_gln text) sites a is in
    (found.0, inr (inr (have_one_gln text a found.1)))
of_stages sites text a (Some x) first is =
    let found = only_listed (are_one_place text) sites a (first ∙ is) in
    (found.0, inr (inl found.1))

pub places_are_listed : PlacesAreListed
unfolding place_of
places_are_listed sites text a is = by (is_address sites text) refl is
  where
    by : (b : Bool) → is_address sites text ≡ b
        → (if b then Some text else option_or (only_member (first_addresses (are_one_place text) sites)) (only_member (first_addresses (name_one_gln text) sites))) ≡ Some a
        → IsPlace sites text a
    by true e is =
        let same : text ≡ a = same_Some _ _ is in
        (subst (IsAddress sites) same (is_its_own sites text e), inl same)
    by false e is = of_stages sites text a (only_member (first_addresses (are_one_place text) sites)) refl is

pub others_have_none : OthersHaveNone
others_have_none sites text elsewhere = by (place_of sites text) refl
  where
    by : (o : Option (List ℕ)) → place_of sites text ≡ o → o ≡ None
    by None is = refl
    by (Some a) is = let found = places_are_listed sites text a is in absurd (elsewhere a found.0 found.1)

-- ---- which place it is

find_none : (p : List ℕ → Bool) (xs : List (List ℕ)) → ((a : List ℕ) → Contains xs a → p a ≡ true → ⊥) → find p xs ≡ None
find_none p xs none = by (find p xs) refl
  where
    by : (o : Option (List ℕ)) → find p xs ≡ o → o ≡ None
    by None is = refl
    by (Some x) is = let found = find_is p xs x is in absurd (none x found.0 found.1)

find_some : (p : List ℕ → Bool) (xs : List (List ℕ)) (a : List ℕ) → Contains xs a → p a ≡ true → (x : List ℕ) × (find p xs ≡ Some x)
find_some p [] a has passes = absurd (contains_none a has)
find_some p (y ∷ xs) a has passes = by (p y) refl (first_or_later y xs a has) (λ later. find_some p xs a later passes)
  where
    by : (b : Bool) → p y ≡ b → (y ≡ a) ⊎ Contains xs a → (Contains xs a → (x : List ℕ) × (find p xs ≡ Some x)) → (x : List ℕ) × (find p (y ∷ xs) ≡ Some x)
    by true e has on = (y, rw e refl)
    by false e (inl same) on = absurd (false≢true (sym e ∙ ap p same ∙ passes))
    by false e (inr later) on = let (x, is) = on later in (x, rw e is)

none_first : (p : List ℕ → Bool) (sites : List Site) → ((s : Site) → Contains sites s → HasAddress p s → ⊥) → first_addresses p sites ≡ []
none_first p [] none = refl
none_first p (s ∷ sites) none =
    let here = find_none p s.addresses (λ a has passes. none s (contains_first s sites) (a, has, passes)) in
    ap (λ (o : Option (List ℕ)). cons_option o (first_addresses p sites)) here ∙ none_first p sites (λ t has. none t (contains_later s sites t has))

one_first : (p : List ℕ → Bool) (sites : List Site) (address : List ℕ) → IsOnly p sites address → first_addresses p sites ≡ address ∷ []
one_first p sites address only =
    ap (first_addresses p) only.is
    ∙ filter_map-append (λ (s : Site). find p s.addresses) only.before (only.site ∷ only.after)
    ∙ ap (λ l. l ++ first_addresses p (only.site ∷ only.after)) (none_first p only.before only.none_before)
    ∙ ap (λ (o : Option (List ℕ)). cons_option o (first_addresses p only.after)) only.first
    ∙ ap (λ l. address ∷ l) (none_first p only.after only.none_after)

-- two members, and what stands about them
abbrev about : List (List ℕ) → List ℕ → List (List ℕ) → List ℕ → List (List ℕ) → List (List ℕ)
about xs x ys y zs = xs ++ x ∷ (ys ++ y ∷ zs)

no_only : (xs : List (List ℕ)) (x : List ℕ) (ys : List (List ℕ)) (y : List ℕ) (zs : List (List ℕ)) → only_member (about xs x ys y zs) ≡ None
no_only [] x [] y zs = refl
no_only [] x (w ∷ ys) y zs = refl
no_only (v ∷ []) x ys y zs = refl
no_only (v ∷ (w ∷ xs)) x ys y zs = refl

two_first : (p : List ℕ → Bool) (sites : List Site) (several : HaveSeveral p sites)
    → (x : List ℕ) × (y : List ℕ) × (first_addresses p sites ≡ about (first_addresses p several.before) x (first_addresses p several.between) y (first_addresses p several.after))
two_first p sites several =
    let h : Site → Option (List ℕ) = λ s. find p s.addresses in
    let (a, has, passes) = several.first in
    let (b, its, holds) = several.second in
    let (x, first) = find_some p several.site.addresses a has passes in
    let (y, second) = find_some p several.other.addresses b its holds in (
      x,
      y,
      ap (first_addresses p) several.are
          ∙ filter_map-append h several.before (several.site ∷ (several.between ++ several.other ∷ several.after))
          ∙ ap (λ (o : Option (List ℕ)). first_addresses p several.before ++ cons_option o (first_addresses p (several.between ++ several.other ∷ several.after))) first
          ∙ ap (λ l. first_addresses p several.before ++ x ∷ l)
          (filter_map-append h several.between (several.other ∷ several.after)
          ∙ ap (λ (o : Option (List ℕ)). first_addresses p several.between ++ cons_option o (first_addresses p several.after)) second),
    )

no_one : (p : List ℕ → Bool) (sites : List Site) → HasNoOne p sites → only_member (first_addresses p sites) ≡ None
no_one p sites (inl none) = ap only_member (none_first p sites none)
no_one p sites (inr several) =
    let (x, y, is) = two_first p sites several in
    ap only_member is ∙ no_only (first_addresses p several.before) x (first_addresses p several.between) y (first_addresses p several.after)

not_there : (sites : List Site) (text : List ℕ) → (IsAddress sites text → ⊥) → is_address sites text ≡ false
not_there sites text other = by (is_address sites text) refl
  where
    by : (b : Bool) → is_address sites text ≡ b → b ≡ false
    by false is = refl
    by true is = absurd (other (is_its_own sites text is))

by_place : (sites : List Site) (text address : List ℕ) → (IsAddress sites text → ⊥) → IsOnly (are_one_place text) sites address → place_of sites text ≡ Some address
unfolding place_of
by_place sites text address other only =
    let one : only_member (first_addresses (are_one_place text) sites) ≡ Some address = ap only_member (one_first (are_one_place text) sites address only) in
    rw (not_there sites text other, one) refl

by_gln : (sites : List Site) (text address : List ℕ) → (IsAddress sites text → ⊥) → HasNoOne (are_one_place text) sites → IsOnly (name_one_gln text) sites address
    → place_of sites text ≡ Some address
unfolding place_of
by_gln sites text address other none only =
    let one : only_member (first_addresses (name_one_gln text) sites) ≡ Some address = ap only_member (one_first (name_one_gln text) sites address only) in
    rw (not_there sites text other, no_one (are_one_place text) sites none) one

no_place : (sites : List Site) (text : List ℕ) → (IsAddress sites text → ⊥) → HasNoOne (are_one_place text) sites → HasNoOne (name_one_gln text) sites → place_of sites text ≡ None
unfolding place_of
no_place sites text other none unnamed = rw (not_there sites text other, no_one (are_one_place text) sites none) (no_one (name_one_gln text) sites unnamed)

of_several : (sites : List Site) (text : List ℕ) → place_of sites text ≡ None → HaveSeveral (name_one_gln text) sites → is_of_several sites text ≡ true
unfolding is_of_several
of_several sites text none several =
    let (x, y, is) = two_first (name_one_gln text) sites several in
    let firsts = first_addresses (name_one_gln text) in
    let long = length-append (firsts several.before) (x ∷ (firsts several.between ++ y ∷ firsts several.after)) in
    let behind = length-append (firsts several.between) (y ∷ firsts several.after) in
    let all : length (firsts sites) ≡ length (about (firsts several.before) x (firsts several.between) y (firsts several.after)) = ap length is in
    rw none (lt-ltb 1 (length (firsts sites)) (omega (arith, all, long, behind)))

pub places_are_found : PlacesAreFound
places_are_found = record { by_place = by_place; by_gln = by_gln; none = no_place; of_several = of_several }
