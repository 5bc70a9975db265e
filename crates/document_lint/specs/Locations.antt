-- Locations by their GLN, and the spellings by which a destination names one: an EPC URI (SGLN, GS1 EPC Tag Data Standard 2.0), a
-- Digital Link (GS1 Digital Link URI syntax, application identifiers 414 and 254), and the GLN alone. An extension is a place within
-- the location, and is passed over.
use Rattle.std.specs.Prelude.{ℕ, Bool, false, ◌&&◌, ◌==◌, ◌%◌, if◌then◌else◌, List, [], ◌∷◌, ◌++◌, bytes_eq, codes, filter, length, map, take, Option, Some, None, option_map, unwrap_or}
use Rattle.std.specs.List.{list_all, list_any}
use Rattle.std.specs.Option.{option_and_then, option_map_or, option_or}
use Rattle.epc_core.specs.Items.{behind, parted}
use Rattle.epc_core.specs.Numbers.{are_parts, is_digit, weighted}
use Rattle.event_json.specs.Sites.{Site}
use Rattle.document_lint.specs.NearMisses.{behind_scheme, path_of}
use Rattle.document_lint.specs.declared.findings.What.{What}
use Rattle.document_lint.specs.declared.findings.What.TheVariants.{OtherSpelling, Outside}

-- ---- the location that a text names

-- 13 digits, the last of which checks the others (GS1 General Specifications, check digit calculations)
abbrev pub is_gln : List ℕ → Bool
is_gln digits = length digits == 13 && (list_all is_digit digits && weighted 1 3 digits % 10 == 0)

-- a location by its GLN without the check digit, which an EPC URI leaves out
abbrev pub gln_location : List ℕ → Option (List ℕ)
gln_location digits = if is_gln digits then Some (take 12 digits) else None

-- `urn:epc:id:sgln:9521321.00003.7`: the company prefix and the location reference, before the extension
abbrev pub uri_parts : List ℕ → Option (List ℕ × List ℕ)
uri_parts text =
    option_and_then (λ first. option_map (λ second. (first.0, second.0)) (parted 46 first.1))
    (option_and_then (parted 46) (behind (codes "urn:epc:id:sgln:") text))

abbrev pub uri_location : List ℕ → Option (List ℕ)
uri_location text =
    option_and_then (λ parts. if are_parts 12 parts.0 parts.1 then Some (parts.0 ++ parts.1) else None) (uri_parts text)

-- `https://id.gs1.org/414/9521321000032/254/7`, on any host: the GLN, before a slash where there is one
abbrev pub before_slash : List ℕ → List ℕ
before_slash text = unwrap_or (option_map (λ parts. parts.0) (parted 47 text)) text

abbrev pub behind_key : List ℕ → Option (List ℕ)
behind_key text = option_and_then (behind (codes "414/")) (option_and_then path_of (behind_scheme text))

abbrev pub link_location : List ℕ → Option (List ℕ)
link_location text = option_and_then (λ rest. gln_location (before_slash rest)) (behind_key text)

-- whichever of these it is
abbrev pub location_of : List ℕ → Option (List ℕ)
location_of text = option_or (uri_location text) (option_or (link_location text) (gln_location text))

-- ---- the site that is meant by it

-- a text names this location
abbrev pub is_named : List ℕ → List ℕ → Bool
is_named location text = option_map_or (λ named. bytes_eq named location) (location_of text) false

-- one of the addresses of a site does
abbrev pub has_location : List ℕ → Site → Bool
has_location location site = list_any (is_named location) site.addresses

-- the sites that are at the location of this text
abbrev pub sites_meant : List Site → List ℕ → List Site
sites_meant sites text = at (location_of text) where
  at : Option (List ℕ) → List Site
  at None = []
  at (Some location) = filter (has_location location) sites

-- a text that is no address of a site, and may be another spelling of one
abbrev pub spelling : List ℕ → Site → What
spelling address site = OtherSpelling site.name address

-- these, and where there are none, a place outside
abbrev pub or_outside : List ℕ → List What → List What
or_outside address [] = Outside address ∷ []
or_outside address (spelled ∷ more) = spelled ∷ more

-- what is found of a destination that is no address of a listed site: each site that is at its location, or that it is a place
-- outside. `Outside` isn't told beside a site, so that what is told of a destination says what to mend: its spelling, or the list.
abbrev pub unlisted : List Site → List ℕ → List What
unlisted sites address = or_outside address (map (spelling address) (sites_meant sites address))
