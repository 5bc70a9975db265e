-- Places by their GLN, and the two spellings of one: as Digital Link, and as EPC URI (GS1 Digital Link, AI 414 and 254; GS1 Tag Data
-- Standard, SGLN).
use Rattle.std.specs.Prelude.{ℕ, ◌-◌, ◌&&◌, ◌+◌, ◌==◌, ◌||◌, ◌%◌, Bool, nat_lt, if◌then◌else◌, List, [], ◌∷◌, bytes_eq, codes, length, take, drop}
use Rattle.std.specs.List.{list_all, list_any}
use Rattle.epc_core.specs.Numbers.{is_digit, weighted}

-- 13 digits, the last of which checks the others (GS1 General Specifications, check digit calculations)
abbrev pub is_gln : List ℕ → Bool
is_gln digits = length digits == 13 && (list_all is_digit digits && weighted 1 3 digits % 10 == 0)

-- what stands before the GLN in a link
abbrev pub link_front : List ℕ
link_front = codes "https://id.gs1.org/414/"

-- nothing behind the GLN, or an extension
abbrev pub is_extended : List ℕ → Bool
is_extended rest = length rest == 0 || (bytes_eq (take 5 rest) (codes "/254/") && nat_lt 5 (length rest))

-- a text that is the link of a place
unfoldable pub is_place_link : List ℕ → Bool
is_place_link text = bytes_eq (take 23 text) link_front && (is_gln (take 13 (drop 23 text)) && is_extended (drop 36 text))

-- the extension of a place, which is 0 where a link has none
abbrev pub extension_of : List ℕ → List ℕ
extension_of rest = if length rest == 0 then codes "0" else drop 5 rest

-- whether a text is the EPC URI of a place whose company prefix has n digits: that, the rest of the GLN without its check
-- digit, and the extension
abbrev pub is_place_uri : List ℕ → List ℕ → List ℕ → ℕ → Bool
is_place_uri text gln extension n =
    bytes_eq (take 16 text) (codes "urn:epc:id:sgln:")
    && (bytes_eq (take n (drop 16 text)) (take n gln)
    && (bytes_eq (take 1 (drop (16 + n) text)) (codes ".")
    && (bytes_eq (take (12 - n) (drop (17 + n) text)) (take (12 - n) (drop n gln))
    && (bytes_eq (take 1 (drop 29 text)) (codes ".") && bytes_eq (drop 30 text) extension))))

-- how long a company prefix may be
abbrev pub company_lengths : List ℕ
company_lengths = 6 ∷ 7 ∷ 8 ∷ 9 ∷ 10 ∷ 11 ∷ 12 ∷ []

-- whether a text is an EPC URI of a place, for some length of its company prefix
unfoldable pub has_uri : List ℕ → List ℕ → List ℕ → Bool
has_uri gln extension uri = list_any (is_place_uri uri gln extension) company_lengths

-- the first text is the link of a place, and the other one an EPC URI of it
unfoldable pub is_uri_of_link : List ℕ → List ℕ → Bool
is_uri_of_link link uri =
    is_place_link link && has_uri (take 13 (drop 23 link)) (extension_of (drop 36 link)) uri

-- two texts are two spellings of one place
unfoldable pub are_one_place : List ℕ → List ℕ → Bool
are_one_place a b = is_uri_of_link a b || is_uri_of_link b a
