-- Texts that an event names as items (GS1 EPCIS 2.0, section 7.4), each by its one spelling: a function says which a text has, as
-- `lot_of` of Lots.antt does of a text that spells a lot.
use Rattle.std.specs.Prelude.{ℕ, Bool, false, not, if◌then◌else◌, ◌||◌, List, codes, bytes_eq, map, Option, Some, None, option_map, unwrap_or}
use Rattle.std.specs.List.{list_any}
use Rattle.serde_json.specs.Data.{Data, string, array, Items}
use Rattle.serde_json.specs.Find.{as_array, as_str}
use Rattle.serde_json.specs.View.{items_of}
use Rattle.event_json.specs.Checks.{type_text}
use Rattle.event_json.specs.Members.{member_named}
use Rattle.event_json.specs.Untraced.{in_order, is_text}
use Rattle.document_convert.specs.Types.{with_member}
use Rattle.document_convert.specs.Lots.{lot_of}

-- the one spelling of what a text spells
abbrev pub Spelling : Type 0
Spelling = List ℕ → Option (List ℕ)

-- ---- a text by its one spelling

abbrev pub spelled_text : Spelling → List ℕ → List ℕ
spelled_text f text = unwrap_or (f text) text

-- a text, or what is none
abbrev pub text_or : Spelling → Option (List ℕ) → Data → Data
text_or f None d = d
text_or f (Some text) d = string (spelled_text f text)

abbrev pub spelled_item : Spelling → Data → Data
spelled_item f d = text_or f (as_str d) d

-- the items of an array, or what is none
abbrev pub array_or : Spelling → Option Items → Data → Data
array_or f None d = d
array_or f (Some items) d = array (items_of (map (spelled_item f) (in_order items)))

-- a text, or an array of texts
abbrev pub spelled : Spelling → Data → Data
spelled f d = text_or f (as_str d) (array_or f (as_array d) d)

-- a value with this member respelled
abbrev pub spelled_member : Spelling → List ℕ → Data → Option Data → Data
spelled_member f name d None = d
spelled_member f name d (Some value) = with_member name (spelled f value) d

unfoldable pub spelled_at : Spelling → List ℕ → Data → Data
spelled_at f name d = spelled_member f name d (member_named name d)

-- an event of this type
abbrev pub spelled_as : Spelling → Data → List ℕ → Data
spelled_as f d type =
    if bytes_eq type (codes "ObjectEvent") then spelled_at f (codes "epcList") d else
    if bytes_eq type (codes "AggregationEvent") then spelled_at f (codes "childEPCs") (spelled_at f (codes "parentID") d) else
    if bytes_eq type (codes "TransformationEvent") then spelled_at f (codes "outputEPCList") (spelled_at f (codes "inputEPCList") d) else d

-- ---- whether something is spelled otherwise

abbrev pub is_otherwise : Spelling → List ℕ → Bool
is_otherwise f text = is_text (λ spelled. not (bytes_eq spelled text)) (f text)

abbrev pub item_otherwise : Spelling → Data → Bool
item_otherwise f d = is_text (is_otherwise f) (as_str d)

abbrev pub array_otherwise : Spelling → Option Items → Bool
array_otherwise f None = false
array_otherwise f (Some items) = list_any (item_otherwise f) (in_order items)

-- a text, or an array of texts
abbrev pub value_otherwise : Spelling → Option Data → Bool
value_otherwise f None = false
value_otherwise f (Some d) = item_otherwise f d || array_otherwise f (as_array d)

-- a member of an event of this type
abbrev pub otherwise_as : Spelling → Data → List ℕ → Bool
otherwise_as f d type =
    if bytes_eq type (codes "ObjectEvent") then value_otherwise f (member_named (codes "epcList") d) else
    if bytes_eq type (codes "AggregationEvent")
    then value_otherwise f (member_named (codes "parentID") d) || value_otherwise f (member_named (codes "childEPCs") d) else
    if bytes_eq type (codes "TransformationEvent")
    then value_otherwise f (member_named (codes "inputEPCList") d) || value_otherwise f (member_named (codes "outputEPCList") d)
    else false

unfoldable pub spells_otherwise_by : Spelling → Data → Bool
spells_otherwise_by f d = is_text (otherwise_as f d) (type_text d)

-- ---- an event

-- an event with its texts by their one spelling; one that spells none otherwise stays as it is
unfoldable pub with_spelled : Spelling → Data → Data
with_spelled f d = if spells_otherwise_by f d then unwrap_or (option_map (spelled_as f d) (type_text d)) d else d

-- ---- its lots

abbrev pub respelled_text : List ℕ → List ℕ
respelled_text = spelled_text lot_of

abbrev pub respelled_item : Data → Data
respelled_item = spelled_item lot_of

abbrev pub spells_otherwise : Data → Bool
spells_otherwise = spells_otherwise_by lot_of

abbrev pub with_spelled_lots : Data → Data
with_spelled_lots = with_spelled lot_of
