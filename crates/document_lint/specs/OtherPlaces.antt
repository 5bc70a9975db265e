-- Places of other sites: an event whose readPoint or bizLocation (GS1 EPCIS 2.0, sections 7.3.5.3 and 7.3.5.4) is an address of another
-- traced site than the one that is to capture it.
use Rattle.std.specs.Prelude.{ℕ, zero, suc, Bool, false, not, ◌&&◌, ◌||◌, ◌==◌, if◌then◌else◌, List, [], ◌∷◌, ◌++◌, bytes_eq, codes, length, Option, Some, None, slice_get}
use Rattle.std.specs.Option.{option_and_then}
use Rattle.epc_core.specs.Items.{is_plain}
use Rattle.serde_json.specs.Data.{Data}
use Rattle.serde_json.specs.Find.{as_str}
use Rattle.event_json.specs.Members.{member_named}
use Rattle.event_json.specs.Sites.{Site}
use Rattle.event_json.specs.declared.limits.TheConstants.{MAX_ADDRESSES}
use Rattle.document_lint.specs.declared.findings.PlaceMember.{PlaceMember}
use Rattle.document_lint.specs.declared.findings.PlaceMember.TheVariants.{ReadPoint, BizLocation}
use Rattle.document_lint.specs.declared.findings.What.{What}
use Rattle.document_lint.specs.declared.findings.What.TheVariants.{OtherPlace}

-- the member by its name
abbrev pub place_name : PlaceMember → List ℕ
place_name ReadPoint = codes "readPoint"
place_name BizLocation = codes "bizLocation"

-- the text by which an event names the place of this member
abbrev pub place_text : PlaceMember → Data → Option (List ℕ)
place_text member d = option_and_then (λ place. option_and_then as_str (member_named (codes "id") place)) (member_named (place_name member) d)

-- the address of a site at a place of its list is this text
abbrev pub is_address : List ℕ → Option (List ℕ) → Bool
is_address text None = false
is_address text (Some address) = bytes_eq address text

-- one of those of a site below a place is
abbrev pub has_address : List Site → ℕ → List ℕ → ℕ → Bool
has_address sites site text zero = false
has_address sites site text (suc n) =
    has_address sites site text n || is_address text (option_and_then (λ s. slice_get s.addresses n) (slice_get sites site))

-- it is an address of one of the sites below a number, but for this one
abbrev pub is_other_below : List Site → ℕ → List ℕ → ℕ → Bool
is_other_below sites here text zero = false
is_other_below sites here text (suc n) = is_other_below sites here text n || (not (n == here) && has_address sites n text MAX_ADDRESSES)

-- it is an address of another site than the one that captures, where that is known
abbrev pub is_other : List Site → Option ℕ → List ℕ → Bool
is_other sites None text = false
is_other sites (Some here) text = is_other_below sites here text (length sites)

-- a place of another site, by its address
abbrev pub placed : PlaceMember → List ℕ → List What
placed member text = if is_plain text then OtherPlace member text ∷ [] else []

-- what is found of a place that an event names
abbrev pub other_place : List Site → Option ℕ → PlaceMember → Option (List ℕ) → List What
other_place sites here member None = []
other_place sites here member (Some text) = if is_other sites here text then placed member text else []

abbrev pub other_places : List Site → Option ℕ → Data → List What
other_places sites here d =
    other_place sites here ReadPoint (place_text ReadPoint d) ++ other_place sites here BizLocation (place_text BizLocation d)
