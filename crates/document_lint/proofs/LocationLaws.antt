-- texts that name a location
use Rattle.std.proofs.Common.{◌≡◌, ◌≢◌, ℕ, ◌+◌, ◌<◌, ◌≤◌, Bool, true, false, List, [], ◌∷◌, ◌++◌, length, get_or, take, Some, None, codes, refl, sym, ◌∙◌, arith}
use Rattle.std.specs.Prelude.{◌&&◌, ◌==◌, ◌%◌, nat_le}
use Rattle.std.specs.List.{list_all}
use Rattle.std.proofs.lemmas.Bool.{and_parts, ne_eqb, true≢false}
use Rattle.std.proofs.lemmas.Bool.Decides.{nat_tests}
use Rattle.std.proofs.lemmas.List.Folds.{list_all_at}
use Rattle.epc_core.specs.Numbers.{are_parts, is_digit, weighted}
use Rattle.epc_core.proofs.Cuts.{parted-append, parted_lacks}
use Rattle.document_lint.specs.Laws.{HasNoSlash, LocationsAreSpelled}
use Rattle.document_lint.specs.Locations.{before_slash, behind_key, gln_location, is_gln, link_location, location_of, uri_location, uri_parts}

-- ---- digits are no full stops, slashes or letters

low_digit : (b : ℕ) → is_digit b ≡ true → 48 ≤ b
low_digit b h = grind (arith, nat_tests)

high_digit : (b : ℕ) → is_digit b ≡ true → b ≤ 57
high_digit b h = grind (arith, nat_tests)

digit_at : (xs : List ℕ) (i : ℕ) → list_all is_digit xs ≡ true → i < length xs → is_digit (get_or xs i 0) ≡ true
digit_at xs i all within = by (is_digit (get_or xs i 0)) refl
  where
    by : (t : Bool) → is_digit (get_or xs i 0) ≡ t → t ≡ true
    by true e = refl
    by false e = absurd (true≢false (sym all ∙ list_all_at is_digit xs i 0 within e))

lacks : (byte : ℕ) (xs : List ℕ) → byte < 48 → list_all is_digit xs ≡ true → (i : ℕ) → i < length xs → get_or xs i 0 ≢ byte
lacks byte xs low all i within is = let digit : 48 ≤ get_or xs i 0 = low_digit (get_or xs i 0) (digit_at xs i all within) in omega arith

-- ---- a GLN

gln_digits : (gln : List ℕ) → is_gln gln ≡ true → list_all is_digit gln ≡ true
gln_digits gln is = (and_parts (list_all is_digit gln) (weighted 1 3 gln % 10 == 0) (and_parts (length gln == 13) _ is).1).0

of_gln : (gln : List ℕ) → is_gln gln ≡ true → gln_location gln ≡ Some (take 12 gln)
of_gln gln is = rw is refl

no_uri : (gln : List ℕ) → list_all is_digit gln ≡ true → uri_location gln ≡ None
no_uri [] all = refl
no_uri (d ∷ gln) all =
    let high : d ≤ 57 = high_digit d (and_parts (is_digit d) (list_all is_digit gln) all).0 in
    rw (ne_eqb d 117 (λ is. omega arith)) (refl {a = None})

no_link : (gln : List ℕ) → list_all is_digit gln ≡ true → link_location gln ≡ None
no_link [] all = refl
no_link (d ∷ gln) all =
    let high : d ≤ 57 = high_digit d (and_parts (is_digit d) (list_all is_digit gln) all).0 in
    rw (ne_eqb d 104 (λ is. omega arith)) refl

by_gln : (gln : List ℕ) → is_gln gln ≡ true → location_of gln ≡ Some (take 12 gln)
by_gln gln is = rw (no_uri gln (gln_digits gln is), no_link gln (gln_digits gln is)) (of_gln gln is)

-- ---- an EPC URI

parts_of : (company reference extension : List ℕ) → list_all is_digit company ≡ true → list_all is_digit reference ≡ true
    → uri_parts (codes "urn:epc:id:sgln:" ++ (company ++ (codes "." ++ (reference ++ (codes "." ++ extension))))) ≡ Some (company, reference)
parts_of company reference extension c r =
    rw (parted-append 46 company (reference ++ (codes "." ++ extension)) (lacks 46 company (omega arith) c))
    (rw (parted-append 46 reference extension (lacks 46 reference (omega arith) r)) refl)

are_digits : (company reference : List ℕ) → are_parts 12 company reference ≡ true → (list_all is_digit company ≡ true) × (list_all is_digit reference ≡ true)
are_digits company reference are =
    let digits : Bool = list_all is_digit company && list_all is_digit reference in
    let long : Bool = length company + length reference == 12 in
    let first = and_parts (nat_le 6 (length company)) (nat_le (length company) 12 && (long && digits)) are in
    let second = and_parts (nat_le (length company) 12) (long && digits) first.1 in
    and_parts (list_all is_digit company) (list_all is_digit reference) (and_parts long digits second.1).1

at_parts : (text company reference : List ℕ) → uri_parts text ≡ Some (company, reference) → are_parts 12 company reference ≡ true → location_of text ≡ Some (company ++ reference)
at_parts text company reference found are = rw found (rw are refl)

by_uri : (company reference extension : List ℕ) → are_parts 12 company reference ≡ true
    → location_of (codes "urn:epc:id:sgln:" ++ (company ++ (codes "." ++ (reference ++ (codes "." ++ extension))))) ≡ Some (company ++ reference)
by_uri company reference extension are =
    let digits = are_digits company reference are in
    at_parts (codes "urn:epc:id:sgln:" ++ (company ++ (codes "." ++ (reference ++ (codes "." ++ extension))))) company reference
    (parts_of company reference extension digits.0 digits.1) are

-- ---- a Digital Link

behind_host : (host rest : List ℕ) → HasNoSlash host → behind_key (codes "https://" ++ (host ++ (codes "/414/" ++ rest))) ≡ Some rest
behind_host host rest none = rw (parted-append 47 host (codes "414/" ++ rest) (λ i within. none i 0 within)) refl

at_key : (text rest gln : List ℕ) → uri_location text ≡ None → behind_key text ≡ Some rest → before_slash rest ≡ gln → is_gln gln ≡ true → location_of text ≡ Some (take 12 gln)
at_key text rest gln none found before is = rw (none, found, before, is) refl

by_rest : (host gln rest : List ℕ) → HasNoSlash host → is_gln gln ≡ true → before_slash rest ≡ gln
    → location_of (codes "https://" ++ (host ++ (codes "/414/" ++ rest))) ≡ Some (take 12 gln)
by_rest host gln rest none is before =
    at_key (codes "https://" ++ (host ++ (codes "/414/" ++ rest))) rest gln refl (behind_host host rest none) before is

by_link : (host gln : List ℕ) → HasNoSlash host → is_gln gln ≡ true → location_of (codes "https://" ++ (host ++ (codes "/414/" ++ gln))) ≡ Some (take 12 gln)
by_link host gln none is = by_rest host gln gln none is (rw (parted_lacks 47 gln (lacks 47 gln (omega arith) (gln_digits gln is))) refl)

by_extended : (host gln extension : List ℕ) → HasNoSlash host → is_gln gln ≡ true
    → location_of (codes "https://" ++ (host ++ (codes "/414/" ++ (gln ++ (codes "/254/" ++ extension))))) ≡ Some (take 12 gln)
by_extended host gln extension none is =
    by_rest host gln (gln ++ (codes "/254/" ++ extension)) none is
    (rw (parted-append 47 gln (codes "254/" ++ extension) (lacks 47 gln (omega arith) (gln_digits gln is))) refl)

pub are_spelled : LocationsAreSpelled
are_spelled = record { by_uri = by_uri; by_gln = by_gln; by_link = by_link; by_extended_link = by_extended }
