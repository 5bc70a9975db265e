-- The addresses of listed sites, one by one, and the sites of a list, one by one.
use Rattle.std.proofs.Common.{◌≡◌, ℕ, ◌+◌, ◌≤◌, suc, Bool, true, false, List, [], ◌∷◌, ◌++◌, map, Option, Some, None, drop, length, option_map, refl, sym, ap, ◌∙◌, subst, append_assoc, arith, if◌then◌else◌, inl, inr}
use Rattle.std.specs.Borrow.{Bor}
use Rattle.std.specs.Prelude.{◌==◌, ◌||◌, is_some, not, slice_get}
use Rattle.std.specs.List.{cons_option, filter_map, find, list_any}
use Rattle.std.specs.Option.{option_and_then}
use Rattle.std.proofs.lemmas.Bool.{ne_eqb}
use Rattle.std.proofs.lemmas.List.{append-nil, drop_all, length-map}
use Rattle.std.proofs.lemmas.Option.{slice_get_cases, slice_get_past}
use Rattle.event_json.specs.Sites.{AreSites, Site}
use Rattle.document_lint.proofs.SiteLists.{address_at, addresses_at, addresses_of, drop_at, few_addresses}
use Rattle.document_convert.specs.Places.{first_addresses, only_member}

-- ---- behind the end of a list

within_or : {X : Type 0} (xs : List X) (i : ℕ) → slice_get xs i ≡ None → length xs ≤ i
within_or xs i none = elim (slice_get_cases xs i).1 [ inl found ↦ (let never : ⊥ = cc (found.2, none) in absurd never) | inr past ↦ past.0 ]

drop_past : {X : Type 0} (xs : List X) (i : ℕ) → slice_get xs i ≡ None → drop i xs ≡ []
drop_past xs i none = drop_all i xs (within_or xs i none)

drop_behind : {X : Type 0} (xs : List X) (i : ℕ) → slice_get xs i ≡ None → drop (i + 1) xs ≡ []
drop_behind xs i none = let past : length xs ≤ i = within_or xs i none in drop_all (i + 1) xs (omega arith)

-- ---- the addresses of a site

-- the first address of a site of this number that passes
abbrev pub first_at : (List ℕ → Bool) → List Site → ℕ → Option (List ℕ)
first_at p sites n = option_and_then (λ (s : Site). find p s.addresses) (slice_get sites n)

first_of : (p : List ℕ → Bool) (found : Option Site) → find p (addresses_of found) ≡ option_and_then (λ (s : Site). find p s.addresses) found
first_of p None = refl
first_of p (Some s) = refl

-- none of the addresses before this place passes
pub record Looked (p : List ℕ → Bool) (sites : List Site) (n place : ℕ) : Type 0 where
  pub later : find p (drop place (addresses_at sites n)) ≡ first_at p sites n

pub looked_none : (p : List ℕ → Bool) (sites : List Site) (n : ℕ) → Looked p sites n 0
looked_none p sites n = record { later = first_of p (slice_get sites n) }

read_at : (sites : List Site) (n place : ℕ) (r : Option (Bor (List ℕ)))
    → option_map (λ t. t.now) r ≡ option_and_then (λ (s : Site). slice_get s.addresses place) (slice_get sites n)
    → slice_get (addresses_at sites n) place ≡ option_map (λ (t : Bor (List ℕ)). t.now) r
read_at sites n place r reads = sym (address_at sites n place) ∙ sym reads

pub looked_next : (p : List ℕ → Bool) (sites : List Site) (n place : ℕ) (r : Option (Bor (List ℕ))) (x : Bor (List ℕ)) → r ≡ Some x
    → option_map (λ t. t.now) r ≡ option_and_then (λ (s : Site). slice_get s.addresses place) (slice_get sites n)
    → p x.now ≡ false → Looked p sites n place → Looked p sites n (place + 1)
looked_next p sites n place r x is reads fails looked =
    let here = drop_at (addresses_at sites n) place x.now (read_at sites n place r reads ∙ ap (option_map (λ (t : Bor (List ℕ)). t.now)) is) in
    record { later = sym (ap (find p) here ∙ rw fails refl) ∙ looked.later }

pub looked_here : (p : List ℕ → Bool) (sites : List Site) (n place : ℕ) (r : Option (Bor (List ℕ))) (x : Bor (List ℕ)) → r ≡ Some x
    → option_map (λ t. t.now) r ≡ option_and_then (λ (s : Site). slice_get s.addresses place) (slice_get sites n)
    → p x.now ≡ true → Looked p sites n place → Some x.now ≡ first_at p sites n
looked_here p sites n place r x is reads passes looked =
    let here = drop_at (addresses_at sites n) place x.now (read_at sites n place r reads ∙ ap (option_map (λ (t : Bor (List ℕ)). t.now)) is) in
    sym (ap (find p) here ∙ rw passes refl) ∙ looked.later

looked_all : (p : List ℕ → Bool) (sites : List Site) (n place : ℕ) → slice_get (addresses_at sites n) place ≡ None → Looked p sites n place → None ≡ first_at p sites n
looked_all p sites n place none looked = sym (ap (find p) (drop_past (addresses_at sites n) place none)) ∙ looked.later

pub none_there : (p : List ℕ → Bool) (sites : List Site) (n place : ℕ) (r : Option (Bor (List ℕ))) → r ≡ None
    → option_map (λ t. t.now) r ≡ option_and_then (λ (s : Site). slice_get s.addresses place) (slice_get sites n)
    → Looked p sites n place → None ≡ first_at p sites n
none_there p sites n place r is reads looked =
    looked_all p sites n place (read_at sites n place r reads ∙ ap (option_map (λ (t : Bor (List ℕ)). t.now)) is) looked

pub none_left : (p : List ℕ → Bool) (sites : List Site) (n place : ℕ) → AreSites sites → 16 ≤ place → Looked p sites n place → None ≡ first_at p sites n
none_left p sites n place are at looked =
    let few : length (addresses_at sites n) ≤ 16 = few_addresses sites n are in
    looked_all p sites n place (slice_get_past (addresses_at sites n) place (omega arith)) looked

-- ---- the sites of a list

-- what the rest gives, behind what was found so far
pub record Gathered {X Y : Type 0} (f : X → Option Y) (xs : List X) (i : ℕ) (found : List Y) : Type 0 where
  pub whole : found ++ filter_map f (drop i xs) ≡ filter_map f xs

one_on : {X Y : Type 0} (f : X → Option Y) (xs : List X) (i : ℕ) (o : Option X) → slice_get xs i ≡ o
    → filter_map f (drop i xs) ≡ cons_option (option_and_then f o) [] ++ filter_map f (drop (i + 1) xs)
one_on f xs i None is = ap (filter_map f) (drop_past xs i is ∙ sym (drop_behind xs i is))
one_on {Y = Y} f xs i (Some x) is = ap (filter_map f) (drop_at xs i x is) ∙ by (f x)
  where
    by : (o : Option Y) → cons_option o (filter_map f (drop (i + 1) xs)) ≡ cons_option o [] ++ filter_map f (drop (i + 1) xs)
    by None = refl
    by (Some y) = refl

pub gathered_none : {X Y : Type 0} (f : X → Option Y) (xs : List X) (found : List Y) → found ≡ [] → Gathered f xs 0 found
gathered_none f xs found is = record { whole = ap (λ l. l ++ filter_map f xs) is }

pub gathered_next : {X Y : Type 0} (f : X → Option Y) (xs : List X) (m i : ℕ) (found more : List Y) → m ≡ i → more ≡ found ++ cons_option (option_and_then f (slice_get xs m)) []
    → Gathered f xs i found → Gathered f xs (i + 1) more
gathered_next {Y = Y} f xs m i found more same is so_far =
    let rest : List Y = filter_map f (drop (i + 1) xs) in
    let its : more ≡ found ++ cons_option (option_and_then f (slice_get xs i)) [] =
    subst (λ k. more ≡ found ++ cons_option (option_and_then f (slice_get xs k)) []) same is in
    record {
      whole =
          ap (λ l. l ++ rest) its ∙ append_assoc found (cons_option (option_and_then f (slice_get xs i)) []) rest
          ∙ ap (λ l. found ++ l) (sym (one_on f xs i (slice_get xs i) refl)) ∙ so_far.whole;
    }

pub gathered_all : {X Y : Type 0} (f : X → Option Y) (xs : List X) (i : ℕ) (found : List Y) → length xs ≤ i → Gathered f xs i found → found ≡ filter_map f xs
gathered_all {X = X} f xs i found past so_far =
    sym (append-nil found) ∙ (ap (λ (l : List X). found ++ filter_map f l) (sym (drop_all i xs past)) ∙ so_far.whole)

-- ---- whether there is one

is_found : (p : List ℕ → Bool) (xs : List (List ℕ)) → is_some (find p xs) ≡ list_any p xs
is_found p [] = refl
is_found p (x ∷ xs) = by (p x) (is_found p xs)
  where
    by : (b : Bool) → is_some (find p xs) ≡ list_any p xs → is_some (if b then Some x else find p xs) ≡ (b || list_any p xs)
    by true later = refl
    by false later = later

filled : (n : ℕ) → not (suc n == 0) ≡ true
filled n = rw (ne_eqb (suc n) 0 (λ e. absurd (omega arith))) refl

some_first : (p : List ℕ → Bool) (sites : List Site) → not (length (first_addresses p sites) == 0) ≡ list_any (λ (s : Site). list_any p s.addresses) sites
some_first p [] = refl
some_first p (s ∷ sites) = by (find p s.addresses) refl (some_first p sites)
  where
    rest : Bool
    rest = list_any (λ (s : Site). list_any p s.addresses) sites

    by : (o : Option (List ℕ)) → find p s.addresses ≡ o → not (length (first_addresses p sites) == 0) ≡ rest
        → not (length (cons_option o (first_addresses p sites)) == 0) ≡ (list_any p s.addresses || rest)
    by None is later = later ∙ ap (λ b. b || rest) (sym (ap is_some is) ∙ is_found p s.addresses)
    by (Some x) is later = filled (length (first_addresses p sites)) ∙ ap (λ b. b || rest) (sym (ap is_some is) ∙ is_found p s.addresses)

pub is_listed : (p : List ℕ → Bool) (sites : List Site) (found : List (Bor (List ℕ))) → map (λ t. t.now) found ≡ first_addresses p sites
    → not (length found == 0) ≡ list_any (λ (s : Site). list_any p s.addresses) sites
is_listed p sites found is = ap (λ n. not (n == 0)) (sym (length-map found (λ (t : Bor (List ℕ)). t.now)) ∙ ap length is) ∙ some_first p sites

-- ---- the member of a list that has only one

-- a list of none or of several has no only member
pub not_one : (xs : List (Bor (List ℕ))) → (length xs ≡ 1 → ⊥) → None ≡ only_member (map (λ t. t.now) xs)
not_one [] other = refl
not_one (x ∷ []) other = absurd (other refl)
not_one (x ∷ (y ∷ xs)) other = refl
