-- What the sum of a frame is made of.
use Rattle.std.specs.Prelude.{ℕ, List, [], ◌∷◌, ◌++◌, take}
use Rattle.std.specs.List.{flat_map}
use Rattle.hex.specs.Hex.{encode_lower}
use Rattle.sha2.specs.Sha256.{sha256}
use Rattle.event_json.specs.Sites.{Site}

-- each address on a line
abbrev pub addresses_text : List (List ℕ) → List ℕ
addresses_text addresses = flat_map (λ a. a ++ 10 ∷ []) addresses

-- the name of a site and each of its addresses on a line, and an empty line behind
abbrev pub site_text : Site → List ℕ
site_text s = s.name ++ 10 ∷ (addresses_text s.addresses ++ 10 ∷ [])

-- a list of sites
abbrev pub sites_text : List Site → List ℕ
sites_text sites = flat_map site_text sites

-- what is digested: the chain's id, the list of sites, and a text
abbrev pub digested : List Site → List ℕ → List ℕ → List ℕ
digested sites chain text = chain ++ 10 ∷ (sites_text sites ++ 10 ∷ text)

-- the first 16 hexadecimal digits, in lower case, of its SHA-256 (FIPS 180-4)
unfoldable pub sum_of_text : List Site → List ℕ → List ℕ → List ℕ
sum_of_text sites chain text = encode_lower (take 8 (sha256 (digested sites chain text)))
