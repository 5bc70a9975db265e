-- Where an ObjectEvent goes (GS1 EPCIS 2.0, section 7.4.2, `destinationList`), by the addresses of listed sites.
use Rattle.std.specs.Prelude.{ℕ, Bool, false, if◌then◌else◌, List, codes, bytes_eq, map, Option, Some, None, option_and_then}
use Rattle.std.specs.List.{list_any}
use Rattle.serde_json.specs.Data.{Data, string, array, Items}
use Rattle.serde_json.specs.Find.{as_array, as_str}
use Rattle.serde_json.specs.View.{items_of}
use Rattle.event_json.specs.Checks.{type_text}
use Rattle.event_json.specs.Members.{member_named}
use Rattle.event_json.specs.Sites.{Site}
use Rattle.event_json.specs.Untraced.{in_order, is_text}
use Rattle.document_convert.specs.EachEvent.{with_each}
use Rattle.document_convert.specs.Places.{is_of_several, place_of}
use Rattle.document_convert.specs.Respelled.{Spelling, is_otherwise}
use Rattle.document_convert.specs.Types.{with_member}
use Rattle.document_convert.specs.declared.placed.Question.{Question}
use Rattle.document_convert.specs.declared.placed.Question.TheVariants.{Otherwise, Several}

-- ---- the destinations of an event

-- the text of a member of the list of destinations
abbrev pub destination_in : Data → Option (List ℕ)
destination_in e = option_and_then as_str (member_named (codes "destination") e)

-- the list of an ObjectEvent
unfoldable pub destinations : Data → Option Items
destinations d =
    option_and_then (λ type. if bytes_eq type (codes "ObjectEvent") then option_and_then as_array (member_named (codes "destinationList") d) else None)
    (type_text d)

abbrev pub goes_to : (List ℕ → Bool) → Data → Bool
goes_to p e = is_text p (destination_in e)

abbrev pub go_to : (List ℕ → Bool) → Option Items → Bool
go_to p None = false
go_to p (Some items) = list_any (goes_to p) (in_order items)

-- an event has a destination whose text is so
unfoldable pub has_destination : (List ℕ → Bool) → Data → Bool
has_destination p d = go_to p (destinations d)

-- what is asked of a text: whether it is the place of an address otherwise spelled, or of several sites
abbrev pub asked_of : List Site → Question → List ℕ → Bool
asked_of sites Otherwise = is_otherwise (place_of sites)
asked_of sites Several = is_of_several sites

-- an event has a destination that becomes an address
abbrev pub has_places : List Site → Data → Bool
has_places sites = has_destination (is_otherwise (place_of sites))

-- ---- by addresses

abbrev pub placed_at : Data → List ℕ → Option (List ℕ) → Data
placed_at e text None = e
placed_at e text (Some place) = if bytes_eq place text then e else with_member (codes "destination") (string place) e

abbrev pub placed_by : Spelling → Data → Option (List ℕ) → Data
placed_by f e None = e
placed_by f e (Some text) = placed_at e text (f text)

-- a member of the list with its destination by the address
unfoldable pub placed_member : Spelling → Data → Data
placed_member f e = placed_by f e (destination_in e)

abbrev pub placed_in : Spelling → Data → Option Items → Data
placed_in f d None = d
placed_in f d (Some items) = with_member (codes "destinationList") (array (items_of (map (placed_member f) (in_order items)))) d

-- an event with its destinations by addresses; one of which none becomes another stays as it is
unfoldable pub with_places : List Site → Data → Data
with_places sites d = if has_places sites d then placed_in (place_of sites) d (destinations d) else d

-- each event of a document with its destinations by addresses, in its place; one of which no event changes stays as it is
abbrev pub document_with_places : List Site → Data → Data
document_with_places sites = with_each (has_places sites) (with_places sites)
