-- The type of an event or a document: the member `type` of GS1 EPCIS 2.0 (section 10, the JSON-LD binding). Where a document is
-- written without the standard's context it is `@type`, as JSON-LD has it; in drafts of the standard it was `isA`.
use Rattle.std.specs.Prelude.{ℕ, Bool, List, codes, Option, Some, None, option_and_then, is_some, if◌then◌else◌}
use Rattle.std.specs.Option.{option_or}
use Rattle.serde_json.specs.Data.{Data, null, boolean, number, string, array, object, Items, no_items, item, put}
use Rattle.serde_json.specs.Find.{as_array, as_str}
use Rattle.event_json.specs.Checks.{type_named, type_text}
use Rattle.event_json.specs.Members.{member_named}

-- an object with this member, in place of the one that it had by this name; any other value stays
abbrev pub with_member : List ℕ → Data → Data → Data
with_member name d null = null
with_member name d (boolean b) = boolean b
with_member name d (number n) = number n
with_member name d (string s) = string s
with_member name d (array ds) = array ds
with_member name d (object ms) = object (put name d ms)

-- the text of an array that has one member
abbrev pub only_text : Items → Option (List ℕ)
only_text no_items = None
only_text (item d no_items) = as_str d
only_text (item d (item e ds)) = None

-- a text, alone or in an array of one
abbrev pub one_text : Data → Option (List ℕ)
one_text d = option_or (as_str d) (option_and_then only_text (as_array d))

-- `@type` comes before `isA`
abbrev pub first_type : Option Data → Option Data → Option (List ℕ)
first_type (Some found) is_a = one_text found
first_type None is_a = option_and_then as_str is_a

-- the type that a value names, but not by the member `type`
unfoldable pub missing_type : Data → Option (List ℕ)
missing_type d =
    if is_some (member_named (codes "type") d) then None
    else first_type (member_named (codes "@type") d) (member_named (codes "isA") d)

-- the type that it names
abbrev pub type_told : Data → Option (List ℕ)
type_told d = option_or (type_text d) (missing_type d)

-- it is an event of the standard by its type
abbrev pub is_event : Data → Bool
is_event d = is_some (option_and_then type_named (type_told d))

-- a value with this type
abbrev pub typed_as : Option (List ℕ) → Data → Data
typed_as None d = d
typed_as (Some text) d = with_member (codes "type") (string text) d

-- a value with its type as the member `type`
abbrev pub typed : Data → Data
typed d = typed_as (missing_type d) d
