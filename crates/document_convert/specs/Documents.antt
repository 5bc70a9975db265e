-- The document that a value holds: an EPCISDocument, what an EPCISQueryDocument found, or an event alone (GS1 EPCIS 2.0, section 10).
use Rattle.std.specs.Prelude.{ℕ, Bool, false, ◌&&◌, if◌then◌else◌, List, [], ◌∷◌, codes, bytes_eq, map, Option, Some, None, option_and_then, option_map, unwrap_or, is_none}
use Rattle.std.specs.List.{list_all}
use Rattle.std.specs.Option.{option_or}
use Rattle.serde_json.specs.Data.{Data, string, array, object, Items, no_items, item, no_members, member}
use Rattle.serde_json.specs.Find.{as_array, as_object}
use Rattle.serde_json.specs.View.{items_of}
use Rattle.event_json.specs.Checks.{type_text}
use Rattle.event_json.specs.Documents.{listed}
use Rattle.event_json.specs.Members.{member_named}
use Rattle.event_json.specs.Untraced.{in_order, is_text}
use Rattle.document_convert.specs.Types.{with_member, missing_type, type_told, is_event, typed}

-- ---- which list of events a value has

-- an array, or an object, which is a list of itself
abbrev pub list_or_one : Data → Option Items
list_or_one d = option_or (as_array d) (option_map (λ _. item d no_items) (as_object d))

-- `eventList`, or else `event`
abbrev pub first_list : Option Data → Option Data → Option Items
first_list (Some list) event = as_array list
first_list None event = option_and_then list_or_one event

-- the events in the body of an EPCISDocument
unfoldable pub body_events : Data → Option Items
body_events d = option_and_then (λ body. first_list (member_named (codes "eventList") body) (member_named (codes "event") body)) (member_named (codes "epcisBody") d)

-- the events that an EPCISQueryDocument found
unfoldable pub result_events : Data → Option Items
result_events d =
    option_and_then as_array
    (option_and_then (member_named (codes "eventList"))
    (option_and_then (member_named (codes "resultsBody"))
    (option_and_then (member_named (codes "queryResults")) (member_named (codes "epcisBody") d))))

-- by its type
abbrev pub events_by : Data → List ℕ → Option Items
events_by d text =
    if bytes_eq text (codes "EPCISDocument") then body_events d else
    if bytes_eq text (codes "EPCISQueryDocument") then result_events d else None

-- the list of events of a value that is no event itself
unfoldable pub document_events : Data → Option Items
document_events d = option_and_then (events_by d) (type_told d)

-- ---- the document

-- a body of these events
abbrev pub body_of : List Data → Data
body_of events = object (member (codes "eventList") (array (items_of events)) no_members)

-- an EPCISDocument of these events; all that stands beside the body is as in d
abbrev pub document_around : Data → List Data → Data
document_around d events = with_member (codes "epcisBody") (body_of events) (with_member (codes "type") (string (codes "EPCISDocument")) d)

-- no event of the list has its type elsewhere than in `type`
abbrev pub are_typed : Option Items → Bool
are_typed None = false
are_typed (Some items) = list_all (λ e. is_none (missing_type e)) (in_order items)

-- a document with its type, its list and the types of its events where a capture looks for them
unfoldable pub is_settled : Data → Bool
is_settled d = is_text (λ text. bytes_eq text (codes "EPCISDocument")) (type_text d) && are_typed (listed d)

-- an EPCISDocument, or an event alone, that has the events of a value; None where it is no document
unfoldable pub document_in : Data → Option Data
document_in d = if is_settled d then Some d else of_list (document_events d) where
  of_list : Option Items → Option Data
  of_list None = if is_event d then Some (typed d) else None
  of_list (Some items) = Some (document_around d (map typed (in_order items)))

-- ---- a text of several

-- the values of a text: the members of an array, or the value itself
abbrev pub values_in : Data → List Data
values_in d = unwrap_or (option_map in_order (as_array d)) (d ∷ [])

-- the document of each
abbrev pub documents_in : Data → List (Option Data)
documents_in d = map document_in (values_in d)
