-- The sites of a list, one by one, and their addresses, one by one.
use Rattle.std.proofs.Common.{◌≡◌, ℕ, ◌+◌, ◌≤◌, ◌<◌, Bool, true, false, ◌&&◌, inl, inr, List, [], ◌∷◌, ◌++◌, map, Option, Some, None, drop, length, option_map, refl, sym, ap, ◌∙◌, subst, append_assoc, arith}
use Rattle.std.specs.Borrow.{Bor}
use Rattle.std.specs.Prelude.{IfSome, IsSome, nat_le, slice_get}
use Rattle.std.specs.List.{filter, list_all, list_any}
use Rattle.std.specs.Option.{option_and_then, option_map_or}
use Rattle.std.proofs.lemmas.Bool.{and_parts, leb-true, true≢false}
use Rattle.std.proofs.lemmas.Bool.Decides.{nat_tests}
use Rattle.std.proofs.lemmas.List.{append-nil, drop_all, drop_more}
use Rattle.std.proofs.lemmas.List.Folds.{list_all_at}
use Rattle.std.proofs.lemmas.Option.{get_or_from_slice_get, same_Some, slice_get_cases, slice_get_past, slice_get_within}
use Rattle.epc_core.specs.Items.{is_plain_byte}
use Rattle.epc_core.specs.Spellings.{IsPlain}
use Rattle.event_json.specs.Sites.{AreSites, Site, is_name_byte, is_site, is_site_name}
use Rattle.document_lint.specs.Locations.{has_location, is_named, or_outside, spelling}
use Rattle.document_lint.specs.declared.findings.What.{What}
use Rattle.document_lint.specs.declared.findings.What.TheVariants.{OtherSpelling, Outside}

-- ---- an element of a list, and what is behind it

pub drop_at : {X : Type 0} (xs : List X) (i : ℕ) (x : X) → slice_get xs i ≡ Some x → drop i xs ≡ x ∷ drop (i + 1) xs
drop_at xs i x is =
    let within : i < length xs = slice_get_within xs i x is in
    drop_more xs i x within ∙ ap (λ y. y ∷ drop (i + 1) xs) (get_or_from_slice_get xs i x x is)

within_or : {X : Type 0} (xs : List X) (i : ℕ) → slice_get xs i ≡ None → length xs ≤ i
within_or xs i none = elim (slice_get_cases xs i).1 [ inl found ↦ (let never : ⊥ = cc (found.2, none) in absurd never) | inr past ↦ past.0 ]

drop_past : {X : Type 0} (xs : List X) (i : ℕ) → slice_get xs i ≡ None → drop i xs ≡ []
drop_past xs i none = drop_all i xs (within_or xs i none)

past_next : {X : Type 0} (xs : List X) (i : ℕ) → slice_get xs i ≡ None → slice_get xs (i + 1) ≡ None
past_next xs i none = let past : length xs ≤ i = within_or xs i none in slice_get_past xs (i + 1) (omega arith)

pub passes_at : {X : Type 0} (p : X → Bool) (xs : List X) (i : ℕ) (x : X) → list_all p xs ≡ true → slice_get xs i ≡ Some x → p x ≡ true
passes_at p xs i x all is = by (p x) refl
  where
    by : (t : Bool) → p x ≡ t → t ≡ true
    by true e = refl
    by false e =
        let bad : list_all p xs ≡ false = list_all_at p xs i x (slice_get_within xs i x is) (ap p (get_or_from_slice_get xs i x x is) ∙ e) in
        absurd (true≢false (sym all ∙ bad))

-- ---- what is left of a list, one step on and at its end

any_past : {X : Type 0} (p : X → Bool) (xs : List X) (i : ℕ) → slice_get xs i ≡ None → list_any p (drop i xs) ≡ false
any_past p xs i none = ap (list_any p) (drop_past xs i none)

any_next : {X : Type 0} (p : X → Bool) (xs : List X) (i : ℕ) (x : X) → slice_get xs i ≡ Some x → p x ≡ false → list_any p (drop (i + 1) xs) ≡ list_any p (drop i xs)
any_next p xs i x is fails = sym (ap (list_any p) (drop_at xs i x is) ∙ rw fails refl)

any_here : {X : Type 0} (p : X → Bool) (xs : List X) (i : ℕ) (x : X) → slice_get xs i ≡ Some x → p x ≡ true → list_any p (drop i xs) ≡ true
any_here p xs i x is passes = ap (list_any p) (drop_at xs i x is) ∙ rw passes refl

-- what passes and is left, behind what was kept so far
pub record Kept {X Y : Type 0} (p : X → Bool) (f : X → Y) (xs : List X) (i : ℕ) (kept : List Y) : Type 0 where
  pub whole : kept ++ map f (filter p (drop i xs)) ≡ map f (filter p xs)

next_fails : {X Y : Type 0} (p : X → Bool) (f : X → Y) (xs : List X) (i : ℕ) (kept : List Y) (found : Option X) → slice_get xs i ≡ found → option_map_or p found false ≡ false
    → kept ++ map f (filter p (drop i xs)) ≡ kept ++ map f (filter p (drop (i + 1) xs))
next_fails p f xs i kept None is e =
    let now : drop i xs ≡ [] = drop_past xs i is in
    let then : drop (i + 1) xs ≡ [] = drop_past xs (i + 1) (past_next xs i is) in
    cc
next_fails p f xs i kept (Some x) is e = rw (drop_at xs i x is, e) refl

next_passes : {X Y : Type 0} (p : X → Bool) (f : X → Y) (xs : List X) (i : ℕ) (kept : List Y) (y : Y) (found : Option X) → slice_get xs i ≡ found → option_map_or p found false ≡ true
    → Some y ≡ option_map f found → kept ++ map f (filter p (drop i xs)) ≡ (kept ++ y ∷ []) ++ map f (filter p (drop (i + 1) xs))
next_passes p f xs i kept y None is e g = absurd (true≢false (sym e))
next_passes p f xs i kept y (Some x) is e g =
    let same : y ≡ f x = same_Some _ _ g in
    rw (drop_at xs i x is, e) (ap (λ z. kept ++ z ∷ map f (filter p (drop (i + 1) xs))) (sym same) ∙ sym (append_assoc kept (y ∷ []) (map f (filter p (drop (i + 1) xs)))))

pub kept_next : {X Y : Type 0} (p : X → Bool) (f : X → Y) (xs : List X) (m i : ℕ) (kept : List Y) → m ≡ i → option_map_or p (slice_get xs m) false ≡ false → Kept p f xs i kept
    → Kept p f xs (i + 1) kept
kept_next p f xs m i kept same fails so_far =
    let here : option_map_or p (slice_get xs i) false ≡ false = subst (λ k. option_map_or p (slice_get xs k) false ≡ false) same fails in
    record { whole = sym (next_fails p f xs i kept (slice_get xs i) refl here) ∙ so_far.whole }

pub kept_one : {X Y : Type 0} (p : X → Bool) (f : X → Y) (xs : List X) (m i : ℕ) (kept more : List Y) (y : Y) → m ≡ i → option_map_or p (slice_get xs m) false ≡ true
    → Some y ≡ option_map f (slice_get xs m) → more ≡ kept ++ y ∷ [] → Kept p f xs i kept → Kept p f xs (i + 1) more
kept_one p f xs m i kept more y same passes made is so_far =
    let here : option_map_or p (slice_get xs i) false ≡ true = subst (λ k. option_map_or p (slice_get xs k) false ≡ true) same passes in
    let its : Some y ≡ option_map f (slice_get xs i) = subst (λ k. Some y ≡ option_map f (slice_get xs k)) same made in
    let next = next_passes p f xs i kept y (slice_get xs i) refl here its in
    record { whole = ap (λ l. l ++ map f (filter p (drop (i + 1) xs))) is ∙ (sym next ∙ so_far.whole) }

pub kept_as : {X Y : Type 0} (p : X → Bool) (f : X → Y) (xs : List X) (i : ℕ) (kept same : List Y) → kept ≡ same → Kept p f xs i kept → Kept p f xs i same
kept_as p f xs i kept same is so_far = record { whole = ap (λ l. l ++ map f (filter p (drop i xs))) (sym is) ∙ so_far.whole }

pub kept_none : {X Y : Type 0} (p : X → Bool) (f : X → Y) (xs : List X) (kept : List Y) → kept ≡ [] → Kept p f xs 0 kept
kept_none p f xs kept is = record { whole = ap (λ l. l ++ map f (filter p xs)) is }

pub kept_all : {X Y : Type 0} (p : X → Bool) (f : X → Y) (xs : List X) (i : ℕ) (kept : List Y) → length xs ≤ i → Kept p f xs i kept → kept ≡ map f (filter p xs)
kept_all {X = X} p f xs i kept past so_far = sym (append-nil kept) ∙ (ap (λ (l : List X). kept ++ map f (filter p l)) (sym (drop_all i xs past)) ∙ so_far.whole)

-- ---- a name is plain

plain_byte : (b : ℕ) → is_name_byte b ≡ true → is_plain_byte b ≡ true
plain_byte b h = grind (arith, nat_tests)

plain_bytes : (name : List ℕ) → list_all is_name_byte name ≡ true → list_all is_plain_byte name ≡ true
plain_bytes [] h = refl
plain_bytes (b ∷ name) h =
    let parts = and_parts (is_name_byte b) (list_all is_name_byte name) h in
    rw (plain_byte b parts.0) (plain_bytes name parts.1)

name_plain : (name : List ℕ) → is_site_name name ≡ true → IsPlain name
name_plain name is =
    let both = and_parts (nat_le 1 (length name) && nat_le (length name) 16) (list_all is_name_byte name) is in
    let sizes = and_parts (nat_le 1 (length name)) (nat_le (length name) 16) both.0 in
    let some : 1 ≤ length name = leb-true _ _ sizes.0 in
    let few : length name ≤ 16 = leb-true _ _ sizes.1 in
    record { some = some; few = omega arith; allowed = plain_bytes name both.1 }

pub site_plain : (sites : List Site) (n : ℕ) (s : Site) → AreSites sites → slice_get sites n ≡ Some s → IsPlain s.name
site_plain sites n s are is =
    let good : is_site s ≡ true = passes_at is_site sites n s are.good is in
    name_plain s.name (and_parts _ _ (and_parts _ _ good).0).0

-- ---- the addresses of a site

-- none where there is no site of this number
abbrev pub addresses_of : Option Site → List (List ℕ)
addresses_of None = []
addresses_of (Some s) = s.addresses

abbrev pub addresses_at : List Site → ℕ → List (List ℕ)
addresses_at sites n = addresses_of (slice_get sites n)

few_of : (sites : List Site) (n : ℕ) (found : Option Site) → AreSites sites → slice_get sites n ≡ found → length (addresses_of found) ≤ 16
few_of sites n None are is = omega arith
few_of sites n (Some s) are is =
    let good : is_site s ≡ true = passes_at is_site sites n s are.good is in
    leb-true _ _ (and_parts _ _ (and_parts _ _ good).0).1

pub few_addresses : (sites : List Site) (n : ℕ) → AreSites sites → length (addresses_at sites n) ≤ 16
few_addresses sites n are = few_of sites n (slice_get sites n) are refl

at_site : (found : Option Site) (place : ℕ) → option_and_then (λ (s : Site). slice_get s.addresses place) found ≡ slice_get (addresses_of found) place
at_site None place = sym (slice_get_past {X = List ℕ} [] place (omega arith))
at_site (Some s) place = refl

pub address_at : (sites : List Site) (n place : ℕ) → option_and_then (λ (s : Site). slice_get s.addresses place) (slice_get sites n) ≡ slice_get (addresses_at sites n) place
address_at sites n place = at_site (slice_get sites n) place

has_of : (location : List ℕ) (found : Option Site) → list_any (is_named location) (addresses_of found) ≡ option_map_or (has_location location) found false
has_of location None = refl
has_of location (Some s) = refl

pub has_at : (location : List ℕ) (sites : List Site) (n : ℕ) → list_any (is_named location) (addresses_at sites n) ≡ option_map_or (has_location location) (slice_get sites n) false
has_at location sites n = has_of location (slice_get sites n)

-- ---- the address at a place, as it was read

read_none : (sites : List Site) (n place : ℕ) (r : Option (Bor (List ℕ))) → r ≡ None
    → option_map (λ t. t.now) r ≡ option_and_then (λ (s : Site). slice_get s.addresses place) (slice_get sites n) → slice_get (addresses_at sites n) place ≡ None
read_none sites n place r is reads = sym (address_at sites n place) ∙ (sym reads ∙ ap (option_map (λ (t : Bor (List ℕ)). t.now)) is)

read_some : (sites : List Site) (n place : ℕ) (r : Option (Bor (List ℕ))) (x : Bor (List ℕ)) → r ≡ Some x
    → option_map (λ t. t.now) r ≡ option_and_then (λ (s : Site). slice_get s.addresses place) (slice_get sites n) → slice_get (addresses_at sites n) place ≡ Some x.now
read_some sites n place r x is reads = sym (address_at sites n place) ∙ (sym reads ∙ ap (option_map (λ (t : Bor (List ℕ)). t.now)) is)

-- none of the addresses before this place names the location
pub record Passed (location : List ℕ) (addresses : List (List ℕ)) (place : ℕ) : Type 0 where
  pub later : list_any (is_named location) (drop place addresses) ≡ list_any (is_named location) addresses

pub passed_next : (location : List ℕ) (sites : List Site) (n place : ℕ) (r : Option (Bor (List ℕ))) (x : Bor (List ℕ)) → r ≡ Some x
    → option_map (λ t. t.now) r ≡ option_and_then (λ (s : Site). slice_get s.addresses place) (slice_get sites n)
    → is_named location x.now ≡ false → Passed location (addresses_at sites n) place → Passed location (addresses_at sites n) (place + 1)
passed_next location sites n place r x is reads fails passed = record {
  later = any_next (is_named location) (addresses_at sites n) place x.now (read_some sites n place r x is reads) fails ∙ passed.later;
}

pub named_here : (location : List ℕ) (sites : List Site) (n place : ℕ) (r : Option (Bor (List ℕ))) (x : Bor (List ℕ)) → r ≡ Some x
    → option_map (λ t. t.now) r ≡ option_and_then (λ (s : Site). slice_get s.addresses place) (slice_get sites n)
    → is_named location x.now ≡ true → Passed location (addresses_at sites n) place → true ≡ option_map_or (has_location location) (slice_get sites n) false
named_here location sites n place r x is reads passes passed =
    sym (any_here (is_named location) (addresses_at sites n) place x.now (read_some sites n place r x is reads) passes) ∙ (passed.later ∙ has_at location sites n)

passed_all : (location : List ℕ) (sites : List Site) (n place : ℕ) → slice_get (addresses_at sites n) place ≡ None → Passed location (addresses_at sites n) place
    → false ≡ option_map_or (has_location location) (slice_get sites n) false
passed_all location sites n place none passed = sym (any_past (is_named location) (addresses_at sites n) place none) ∙ (passed.later ∙ has_at location sites n)

pub none_here : (location : List ℕ) (sites : List Site) (n place : ℕ) (r : Option (Bor (List ℕ))) → r ≡ None
    → option_map (λ t. t.now) r ≡ option_and_then (λ (s : Site). slice_get s.addresses place) (slice_get sites n)
    → Passed location (addresses_at sites n) place → false ≡ option_map_or (has_location location) (slice_get sites n) false
none_here location sites n place r is reads passed = passed_all location sites n place (read_none sites n place r is reads) passed

pub none_left : (location : List ℕ) (sites : List Site) (n place : ℕ) → AreSites sites → 16 ≤ place → Passed location (addresses_at sites n) place
    → false ≡ option_map_or (has_location location) (slice_get sites n) false
none_left location sites n place are at passed =
    let few : length (addresses_at sites n) ≤ 16 = few_addresses sites n are in
    passed_all location sites n place (slice_get_past (addresses_at sites n) place (omega arith)) passed

-- ---- the name of a site, as it was read

pub name_some : (sites : List Site) (n : ℕ) (r : Option (Bor (List ℕ))) → n < length sites → option_map (λ t. t.now) r ≡ option_map (λ (s : Site). s.name) (slice_get sites n) → r ≡ None → ⊥
name_some sites n r within reads none = by (slice_get sites n) refl (sym reads ∙ ap (option_map (λ (t : Bor (List ℕ)). t.now)) none)
  where
    by : (found : Option Site) → slice_get sites n ≡ found → option_map (λ (s : Site). s.name) found ≡ None → ⊥
    by None is e = let past : length sites ≤ n = within_or sites n is in omega arith
    by (Some s) is e = cc

pub name_is : (sites : List Site) (n : ℕ) (r : Option (Bor (List ℕ))) (x : Bor (List ℕ)) → r ≡ Some x → option_map (λ t. t.now) r ≡ option_map (λ (s : Site). s.name) (slice_get sites n)
    → Some x.now ≡ option_map (λ (s : Site). s.name) (slice_get sites n)
name_is sites n r x is reads = ap (option_map (λ (t : Bor (List ℕ)). t.now)) (sym is) ∙ reads

pub name_read_plain : (sites : List Site) (n : ℕ) (name : List ℕ) → AreSites sites → Some name ≡ option_map (λ (s : Site). s.name) (slice_get sites n) → IsPlain name
name_read_plain sites n name are reads = by (slice_get sites n) refl reads
  where
    by : (found : Option Site) → slice_get sites n ≡ found → Some name ≡ option_map (λ (s : Site). s.name) found → IsPlain name
    by None is e = absurd (let never : ⊥ = cc in never)
    by (Some s) is e = subst (λ t. IsPlain t) (sym (same_Some _ _ e)) (site_plain sites n s are is)

pub spelling_read : (address : List ℕ) (name : List ℕ) (site : Option Site) → Some name ≡ option_map (λ (s : Site). s.name) site → Some (OtherSpelling name address) ≡ option_map (spelling address) site
spelling_read address name None reads = absurd (let never : ⊥ = cc in never)
spelling_read address name (Some s) reads = ap (λ n. Some (OtherSpelling n address)) (same_Some _ _ reads)

pub some_or_none : {A : Type 0} (r : Option A) → IsSome r → r ≡ None → ⊥
some_or_none None some is = cc
some_or_none (Some x) some is = cc

pub spelled_as : (sites : List Site) (n : ℕ) (r : Option (List ℕ)) (site name address place : List ℕ) → r ≡ Some site → IfSome r (λ own. own ≡ name) → address ≡ place
    → Some name ≡ option_map (λ (s : Site). s.name) (slice_get sites n) → Some (OtherSpelling site address) ≡ option_map (spelling place) (slice_get sites n)
spelled_as sites n None site name address place is value copied named = absurd (let never : ⊥ = cc in never)
spelled_as sites n (Some own) site name address place is value copied named =
    let same : site ≡ name = sym (same_Some _ _ is) ∙ value in
    ap (λ s. Some (OtherSpelling s address)) same ∙ (ap (λ a. Some (OtherSpelling name a)) copied ∙ spelling_read place name (slice_get sites n) named)

-- ---- what is told where no site is meant

pub none_spelled : (place address : List ℕ) (spellings told : List What) → length spellings ≡ 0 → address ≡ place → told ≡ spellings ++ Outside address ∷ [] → told ≡ or_outside place spellings
none_spelled place address [] told none copied is = is ∙ ap (λ a. Outside a ∷ []) copied
none_spelled place address (s ∷ spellings) told none copied is = absurd (omega arith)

pub some_spelled : (place : List ℕ) (spellings told : List What) → (length spellings ≡ 0 → ⊥) → told ≡ spellings → told ≡ or_outside place spellings
some_spelled place [] told some is = absurd (some refl)
some_spelled place (s ∷ spellings) told some is = is
