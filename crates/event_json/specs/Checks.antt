-- The checks of an event, in the order in which they are made: the event types of GS1
-- EPCIS 2.0 (core event types module) in their JSON form, in this project's profile.
use Rattle.std.specs.Prelude.{ℕ, ℤ, ◌+◌, ◌-◌, ◌*◌, Bool, ◌&&◌, ◌||◌, ◌==◌, nat_le, nat_lt, if◌then◌else◌, List, length, codes, slice_index, bytes_eq, Option, Some, None, Result, Ok, Err, option_and_then, is_some, ⊤}
use Rattle.serde_json.specs.Data.{Data}
use Rattle.serde_json.specs.Find.{as_str, as_array, as_object}
use Rattle.jiff.specs.Words.{parse_timestamp}
use Rattle.event_json.specs.declared.bodies.Action.{Action}
use Rattle.event_json.specs.declared.bodies.Action.TheVariants.{Add, Observe, Delete}
use Rattle.event_json.specs.declared.event_types.EventType.{EventType}
use Rattle.event_json.specs.declared.event_types.EventType.TheVariants.{Object, Aggregation, Transaction, Transformation, Association}
use Rattle.event_json.specs.declared.doc_faults.DocField.{DocField}
use Rattle.event_json.specs.declared.doc_faults.DocField.TheVariants as fields
use Rattle.event_json.specs.declared.doc_faults.DocFaultKind.TheVariants as kinds
use Rattle.event_json.specs.declared.doc_faults.Flaw.{Flaw}
use Rattle.event_json.specs.declared.checks.Head.{Head}
use Rattle.event_json.specs.Faults.{◌>>=◌}
use Rattle.event_json.specs.Members.{member_of, or_flaw, text_of, identifier_of, count_of}

-- the event types of the standard
unfoldable pub type_named : List ℕ → Option EventType
type_named text =
    if bytes_eq text (codes "ObjectEvent") then Some Object else
    if bytes_eq text (codes "AggregationEvent") then Some Aggregation else
    if bytes_eq text (codes "TransactionEvent") then Some Transaction else
    if bytes_eq text (codes "TransformationEvent") then Some Transformation else
    if bytes_eq text (codes "AssociationEvent") then Some Association else None

-- the text of the member `type`, where it is a text
abbrev pub type_text : Data → Option (List ℕ)
type_text d = option_and_then as_str (member_of fields.Type d)

-- an object whose type is one of these
unfoldable pub event_type : Data → Result EventType Flaw
event_type d =
    if is_some (as_object d)
    then or_flaw (record { field = fields.Type; kind = kinds.NoType }) (option_and_then type_named (type_text d))
    else Err (record { field = fields.Event; kind = kinds.WrongShape })

-- what was said before and is retracted isn't told apart: such an event is refused by name
unfoldable pub without_declaration : Data → Result ⊤ Flaw
without_declaration d =
    if is_some (member_of fields.ErrorDeclaration d) then Err (record { field = fields.ErrorDeclaration; kind = kinds.ErrorDeclared }) else Ok tt

-- quantities aren't traced: an event with some is refused by name
unfoldable pub without_quantities : DocField → Data → Result ⊤ Flaw
without_quantities field d = empty (member_of field d) where
  empty : Option Data → Result ⊤ Flaw
  empty None = Ok tt
  empty (Some list) = do
    items ← or_flaw (record { field = field; kind = kinds.WrongShape }) (as_array list)
    if count_of items == 0 then Ok tt else Err (record { field = field; kind = kinds.Quantities })

-- the instant that a text names, in nanoseconds from 1970 in UTC
unfoldable pub instant_of : List ℕ → Result ℤ Flaw
instant_of text = read (parse_timestamp text) where
  read : {E : Type 0} → Result ℤ E → Result ℤ Flaw
  read (Ok n) = Ok n
  read (Err e) = Err (record { field = fields.EventTime; kind = kinds.Time })

-- two digits that stand for a number below the limit
abbrev pub is_number_below : ℕ → ℕ → ℕ → Bool
is_number_below limit tens ones =
    nat_le 48 tens && nat_le tens 57 && nat_le 48 ones && nat_le ones 57 && nat_lt ((tens - 48) * 10 + (ones - 48)) limit

-- a sign, two digits 00 to 14, a colon and two digits 00 to 59
unfoldable pub is_offset : List ℕ → Bool
is_offset text =
    (length text == 6)
    && ((slice_index text 0 == 43) || (slice_index text 0 == 45))
    && is_number_below 15 (slice_index text 1) (slice_index text 2)
    && (slice_index text 3 == 58)
    && is_number_below 60 (slice_index text 4) (slice_index text 5)

-- the offset of the clock that showed the event time; the instant doesn't depend on it
unfoldable pub offset_checked : List ℕ → Result ⊤ Flaw
offset_checked text = if is_offset text then Ok tt else Err (record { field = fields.EventTimeZoneOffset; kind = kinds.Offset })

-- eventID, eventTime and eventTimeZoneOffset
unfoldable pub head_of : Data → Result Head Flaw
head_of d = do
  id ← identifier_of fields.EventId (member_of fields.EventId d)
  time ← text_of fields.EventTime (member_of fields.EventTime d)
  instant ← instant_of time
  offset ← text_of fields.EventTimeZoneOffset (member_of fields.EventTimeZoneOffset d)
  _ ← offset_checked offset
  Ok (record { id = id; instant = instant })

-- what was done to the items; it is only checked
unfoldable pub action_checked : Data → Result ⊤ Flaw
action_checked d = do
  text ← text_of fields.Action (member_of fields.Action d)
  if bytes_eq text (codes "ADD") || bytes_eq text (codes "OBSERVE") || bytes_eq text (codes "DELETE") then Ok tt else Err (record { field = fields.Action; kind = kinds.Action })

-- the actions of the standard
unfoldable pub action_named : List ℕ → Option Action
action_named text =
    if bytes_eq text (codes "ADD") then Some Add else
    if bytes_eq text (codes "OBSERVE") then Some Observe else
    if bytes_eq text (codes "DELETE") then Some Delete else None

-- what was done to the children
unfoldable pub action_of : Data → Result Action Flaw
action_of d = do
  text ← text_of fields.Action (member_of fields.Action d)
  or_flaw (record { field = fields.Action; kind = kinds.Action }) (action_named text)
