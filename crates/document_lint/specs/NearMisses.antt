-- Items whose text begins as that of an SGTIN or an SSCC does and isn't one: a check digit is wrong, a part is missing, a Digital
-- Link is on another host or names a lot. The forms are those of the GS1 EPC Tag Data Standard 2.0 (6.3), of GS1 Digital Link URI
-- syntax and of element strings in the GS1 General Specifications.
use Rattle.std.specs.Prelude.{ℕ, Bool, false, ◌||◌, if◌then◌else◌, List, codes, Option, Some, None, is_some, option_map}
use Rattle.std.specs.Option.{option_and_then, option_map_or, option_or}
use Rattle.epc_core.specs.Items.{behind, parted}

-- the text begins so
abbrev pub begins : List ℕ → List ℕ → Bool
begins front text = is_some (behind front text)

-- an EPC URI
abbrev pub is_number_uri : List ℕ → Bool
is_number_uri text = begins (codes "urn:epc:id:sgtin:") text || begins (codes "urn:epc:id:sscc:") text

-- an element string, in brackets
abbrev pub is_number_element : List ℕ → Bool
is_number_element text = begins (codes "(01)") text || begins (codes "(00)") text

-- a Digital Link on any host: `https://` or `http://`, the host, `/`, and a GTIN or an SSCC
abbrev pub behind_scheme : List ℕ → Option (List ℕ)
behind_scheme text = option_or (behind (codes "https://") text) (behind (codes "http://") text)

abbrev pub path_of : List ℕ → Option (List ℕ)
path_of rest = option_map (λ parts. parts.1) (parted 47 rest)

abbrev pub is_number_path : List ℕ → Bool
is_number_path path = begins (codes "01/") path || begins (codes "00/") path

abbrev pub is_number_link : List ℕ → Bool
is_number_link text = option_map_or is_number_path (option_and_then path_of (behind_scheme text)) false

-- a text begins as one of an SGTIN or an SSCC
abbrev pub is_number_like : List ℕ → Bool
is_number_like text = is_number_uri text || (is_number_element text || is_number_link text)

-- the text of the item of a key that is neither, where it begins so
abbrev pub near_text : List ℕ → Option (List ℕ)
near_text key = option_and_then (λ text. if is_number_like text then Some text else None) (behind (codes "uri ") key)
