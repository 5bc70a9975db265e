-- Lists of more than 1,000 members in parts: a capture takes at most 1,000 members of a list, and 1,000 events of a document.
use Rattle.std.specs.Prelude.{ℕ, zero, suc, ◌+◌, ◌-◌, ◌*◌, ◌/◌, max, Bool, false, ◌&&◌, ◌||◌, nat_le, nat_lt, if◌then◌else◌, List, [], ◌∷◌, ◌++◌, bytes_eq, codes, drop, length, map, take, Option, Some, None, is_some, option_and_then, option_map, unwrap_or}
use Rattle.std.specs.Fmt.{decimal}
use Rattle.std.specs.List.{enumerate_from, flat_map, list_any}
use Rattle.serde_json.specs.Data.{Data, array, object, string, Items, no_items, no_members}
use Rattle.serde_json.specs.Find.{as_array, as_str}
use Rattle.serde_json.specs.View.{items_of}
use Rattle.event_json.specs.Checks.{type_text}
use Rattle.event_json.specs.Documents.{listed}
use Rattle.event_json.specs.Members.{member_named}
use Rattle.event_json.specs.Untraced.{in_order, is_text}
use Rattle.document_convert.specs.Types.{with_member}
use Rattle.document_convert.specs.Documents.{document_around}
use Rattle.document_convert.specs.LotEvents.{short}
use Rattle.document_convert.specs.Quantities.{list_of, without_member}

-- ---- thousands

-- the kth thousand of a list, from 0; the last has the rest, and each behind it nothing
abbrev pub thousand : {X : Type 0} → ℕ → List X → List X
thousand k xs = take 1000 (drop (k * 1000) xs)

-- how many there are of so many members: at least one
abbrev pub thousands : ℕ → ℕ
thousands count = 1 + (count - 1) / 1000

-- so many numbers from this one on, in order
abbrev pub numbers : ℕ → ℕ → List ℕ
numbers k zero = []
numbers k (suc count) = k ∷ numbers (k + 1) count

-- what is told of each thousand of so many, in order
abbrev pub of_each : {X : Type 0} → (ℕ → X) → ℕ → List X
of_each f count = map f (numbers 0 count)

-- ---- the lists of an event

-- the array of a member; an empty one where it is absent, or none
abbrev pub array_at : List ℕ → Data → Items
array_at name d = unwrap_or (option_and_then as_array (member_named name d)) no_items

abbrev pub members_at : List ℕ → Data → List Data
members_at name d = in_order (array_at name d)

-- a member is an array, or absent
abbrev pub is_list : List ℕ → Data → Bool
is_list name d = is_some (list_of (member_named name d))

abbrev pub is_long : List ℕ → Data → Bool
is_long name d = nat_lt 1000 (length (members_at name d))

-- how many thousands a list has
abbrev pub count_at : List ℕ → Data → ℕ
count_at name d = thousands (length (members_at name d))

-- with these for its members
abbrev pub with_list : List ℕ → List Data → Data → Data
with_list name members d = with_member name (array (items_of members)) d

-- with the kth thousand of a list that an event has
abbrev pub with_thousand : Data → List ℕ → ℕ → Data → Data
with_thousand d name k part = with_list name (thousand k (members_at name d)) part

-- ---- the identifiers of parts

-- the identifier of an event, where it is a text
abbrev pub event_id : Data → Option (List ℕ)
event_id d = option_and_then as_str (member_named (codes "eventID") d)

-- with this identifier, or with none
abbrev pub with_event_id : Option (List ℕ) → Data → Data
with_event_id None d = without_member (codes "eventID") d
with_event_id (Some id) d = with_member (codes "eventID") (string id) d

-- that of an event's nth part, from 1, where it isn't too long
abbrev pub part_id : List ℕ → ℕ → Option (List ℕ)
part_id id n = short (id ++ (codes "#" ++ decimal n))

-- the nth part of an event that has this identifier
abbrev pub with_part_id : Option (List ℕ) → ℕ × Data → Data
with_part_id None (n, part) = part
with_part_id (Some id) (n, part) = with_event_id (part_id id n) part

-- the identifier of a transformation that is reported in several events: its own, or that of the event with `#made` behind it
abbrev pub id_made : Option Data → Option (List ℕ) → Option (List ℕ)
id_made (Some own) event = as_str own
id_made None event = option_and_then (λ id. short (id ++ codes "#made")) event

abbrev pub made_id : Data → Option (List ℕ)
made_id d = id_made (member_named (codes "transformationID") d) (event_id d)

-- ---- the parts of an event, before they are numbered

-- one for each thousand of a list
abbrev pub listed_parts : List ℕ → Data → List Data
listed_parts name d = of_each (λ k. with_thousand d name k d) (count_at name d)

-- a transformation with both lists empty
abbrev pub emptied : Data → Data
emptied d = with_list (codes "outputEPCList") [] (with_list (codes "inputEPCList") [] d)

-- with this identifier of a transformation, where there is one
abbrev pub with_make_id : Option (List ℕ) → Data → Data
with_make_id None d = d
with_make_id (Some id) d = with_member (codes "transformationID") (string id) d

-- what the parts of a transformation of this identifier have beside their lists
abbrev pub made_with : Option (List ℕ) → Data → Data
made_with id d = with_make_id id (emptied d)

-- with this thousand of its inputs and that one of its outputs
abbrev pub made_part : Data → ℕ → ℕ → Data
made_part d i j =
    with_thousand d (codes "outputEPCList") j (with_thousand d (codes "inputEPCList") i (made_with (made_id d) d))

-- each thousand of the inputs with the same one of the outputs
abbrev pub made_in_step : Data → List Data
made_in_step d = of_each (λ k. made_part d k k) (max (count_at (codes "inputEPCList") d) (count_at (codes "outputEPCList") d))

-- each with each
abbrev pub made_of_each : Data → List Data
made_of_each d =
    flat_map (λ i. of_each (made_part d i) (count_at (codes "outputEPCList") d)) (numbers 0 (count_at (codes "inputEPCList") d))

-- so that each input still leads to each output: events of one identifier are one transformation, and others each their own
abbrev pub made_parts : Data → List Data
made_parts d = if is_some (made_id d) then made_in_step d else made_of_each d

-- by its type
abbrev pub parts_as : Data → List ℕ → List Data
parts_as d type =
    if bytes_eq type (codes "ObjectEvent") then listed_parts (codes "epcList") d else
    if bytes_eq type (codes "AggregationEvent") then listed_parts (codes "childEPCs") d else made_parts d

-- ---- whether an event has some

-- a transformation has at most 1,000 parts where each thousand stands with each
abbrev pub is_long_make : Data → Bool
is_long_make d =
    (is_list (codes "inputEPCList") d && is_list (codes "outputEPCList") d)
    && ((is_long (codes "inputEPCList") d || is_long (codes "outputEPCList") d)
    && (is_some (made_id d) || nat_le (count_at (codes "inputEPCList") d * count_at (codes "outputEPCList") d) 1000))

abbrev pub is_long_as : Data → List ℕ → Bool
is_long_as d type =
    if bytes_eq type (codes "ObjectEvent") then is_long (codes "epcList") d else
    if bytes_eq type (codes "AggregationEvent") then is_long (codes "childEPCs") d else
    if bytes_eq type (codes "TransformationEvent") then is_long_make d else false

-- an event has a list of more than 1,000 members that is parted
unfoldable pub has_parts : Data → Bool
has_parts d = is_text (is_long_as d) (type_text d)

-- an event in parts, numbered from 1, or as it is
unfoldable pub event_parts : Data → List Data
event_parts d =
    if has_parts d then map (with_part_id (event_id d)) (enumerate_from 1 (unwrap_or (option_map (parts_as d) (type_text d)) []))
    else d ∷ []

-- ---- documents

-- a document for each thousand of these events, with all that stands beside the body of a value
abbrev pub documents_around : Data → List Data → List Data
documents_around d events = of_each (λ k. document_around d (thousand k events)) (thousands (length events))

-- more than 1,000 events, or one that has parts
abbrev pub are_long : List Data → Bool
are_long events = nat_lt 1000 (length events) || list_any has_parts events

-- an event that is a document of its own
abbrev pub bare_in_parts : Data → List Data
bare_in_parts d = if has_parts d then documents_around (object no_members) (event_parts d) else d ∷ []

-- the documents of a document whose events are parted, at most 1,000 of them in each; one without long lists stays as it is
unfoldable pub in_parts : Data → List Data
in_parts d = if is_text (λ text. bytes_eq text (codes "EPCISDocument")) (type_text d) then of_list (listed d) else bare_in_parts d where
  of_list : Option Items → List Data
  of_list None = d ∷ []
  of_list (Some items) = if are_long (in_order items) then documents_around d (flat_map event_parts (in_order items)) else d ∷ []
