-- Which listed site a text means, and by which of its addresses: a place by its GLN has several spellings, as Digital Link and as EPC
-- URI (GS1 Digital Link, AI 414 and 254; GS1 Tag Data Standard, SGLN), and a site may be listed by one that a destination doesn't have.
use Rattle.std.specs.Prelude.{ℕ, ◌&&◌, Bool, if◌then◌else◌, List, [], ◌∷◌, Option, None, Some, bytes_eq, is_none, length, nat_lt}
use Rattle.std.specs.List.{filter_map, find, list_any}
use Rattle.std.specs.Option.{option_or}
use Rattle.event_json.specs.Sites.{Site}
use Rattle.event_json.specs.Untraced.{is_text}
use Rattle.item_spellings.specs.Places.{are_one_place}
use Rattle.document_lint.specs.Locations.{location_of}
use Rattle.document_convert.specs.Respelled.{Spelling}
use Rattle.document_convert.specs.declared.places.Sameness.{Sameness}
use Rattle.document_convert.specs.declared.places.Sameness.TheVariants.{Gln, Place, Text}

-- two texts name one GLN
abbrev pub name_one_gln : List ℕ → List ℕ → Bool
name_one_gln a b = is_text (λ gln. is_text (bytes_eq gln) (location_of b)) (location_of a)

-- an address is the same as a text: by its bytes, or as a place with its extension, or by its GLN
abbrev pub are_same : Sameness → List ℕ → List ℕ → Bool
are_same Text text address = bytes_eq text address
are_same Place text address = are_one_place text address
are_same Gln text address = name_one_gln text address

-- of each site that has such an address the first one
abbrev pub first_addresses : (List ℕ → Bool) → List Site → List (List ℕ)
first_addresses p sites = filter_map (λ s. find p s.addresses) sites

-- the member of a list that has only one
abbrev pub only_member : List (List ℕ) → Option (List ℕ)
only_member [] = None
only_member (x ∷ []) = Some x
only_member (x ∷ (y ∷ more)) = None

-- the text is an address of a listed site
abbrev pub is_address : List Site → List ℕ → Bool
is_address sites text = list_any (λ s. list_any (bytes_eq text) s.addresses) sites

-- the address by which the place of a text is listed: the text itself; else the first address of the one site that has the same place;
-- else the first address of the one site that has the same GLN
unfoldable pub place_of : List Site → Spelling
place_of sites text =
    if is_address sites text then Some text
    else option_or (only_member (first_addresses (are_one_place text) sites)) (only_member (first_addresses (name_one_gln text) sites))

-- a text that is the place of no one site, and names the GLN of several
unfoldable pub is_of_several : List Site → List ℕ → Bool
is_of_several sites text = is_none (place_of sites text) && nat_lt 1 (length (first_addresses (name_one_gln text) sites))
