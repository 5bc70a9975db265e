-- One event of a document: the checks of its type, in order, and what it says.
use Rattle.std.specs.Prelude.{ℕ, ◌==◌, ◌&&◌, ◌||◌, if◌then◌else◌, List, length, filter, filter_map, Option, Some, None, Result, Ok, Err, is_none}
use Rattle.serde_json.specs.Data.{Data}
use Rattle.event_json.specs.declared.bodies.Action.{Action}
use Rattle.event_json.specs.declared.bodies.Action.TheVariants.{Add, Observe, Delete}
use Rattle.event_json.specs.declared.bodies.Body.{Body}
use Rattle.event_json.specs.declared.bodies.Body.TheVariants.{Note, Ship, Make, Pack}
use Rattle.event_json.specs.declared.event_types.EventType.{EventType}
use Rattle.event_json.specs.declared.event_types.EventType.TheVariants.{Object, Aggregation, Transaction, Transformation, Association}
use Rattle.event_json.specs.declared.doc_faults.DocField.TheVariants as fields
use Rattle.event_json.specs.declared.doc_faults.DocFaultKind.TheVariants as kinds
use Rattle.event_json.specs.declared.doc_faults.Flaw.{Flaw}
use Rattle.event_json.specs.Faults.{◌>>=◌}
use Rattle.event_json.specs.Members.{member_of, identifier_of}
use Rattle.event_json.specs.Events.{Content}
use Rattle.event_json.specs.Sites.{Site, addressed}
use Rattle.event_json.specs.Checks.{event_type, without_declaration, without_quantities, head_of, action_checked, action_of}
use Rattle.event_json.specs.ItemLists.{epc_of, epcs_of, destinations_of}

-- without a destination the items were seen; with some they were shipped, to the traced sites that have
-- these addresses and to the other texts, which are outside
abbrev pub shipment : List Site → List (List ℕ) → List (List ℕ) → Body
shipment sites items destinations =
    if length destinations == 0 then Note items
    else Ship items (filter_map (addressed sites) destinations) (filter (λ t. is_none (addressed sites t)) destinations)

-- ObjectEvent
unfoldable pub object_event : List Site → Data → Result Content Flaw
object_event sites d = do
  _ ← without_declaration d
  _ ← without_quantities fields.QuantityList d
  head ← head_of d
  _ ← action_checked d
  items ← epcs_of fields.EpcList d
  destinations ← destinations_of d
  Ok (record { id = head.id; instant = head.instant; body = shipment sites items destinations })

-- a transformation that is reported in one event has inputs and outputs; one that has an id may be reported in several
abbrev pub made : Option (List ℕ) → List (List ℕ) → List (List ℕ) → Result Body Flaw
made id ins outs =
    if is_none id && ((length ins == 0) || (length outs == 0))
    then Err (record { field = fields.TransformationId; kind = kinds.HalfTransformation })
    else Ok (Make id ins outs)

-- TransformationEvent
unfoldable pub transformation_event : Data → Result Content Flaw
transformation_event d = do
  _ ← without_declaration d
  _ ← without_quantities fields.InputQuantityList d
  _ ← without_quantities fields.OutputQuantityList d
  head ← head_of d
  ins ← epcs_of fields.InputEpcList d
  outs ← epcs_of fields.OutputEpcList d
  id ← identifier_of fields.TransformationId (member_of fields.TransformationId d)
  body ← made id ins outs
  Ok (record { id = head.id; instant = head.instant; body = body })

-- what the children were put into: it has to be named where they were put in, and is an item where it is
unfoldable pub parent_of : Action → Data → Result (Option (List ℕ)) Flaw
parent_of action d = by action (member_of fields.ParentId d) where
  by : Action → Option Data → Result (Option (List ℕ)) Flaw
  by Add None = Err (record { field = fields.ParentId; kind = kinds.Missing })
  by Observe None = Ok None
  by Delete None = Ok None
  by action (Some named) = epc_of fields.ParentId named >>= λ key. Ok (Some key)

-- AggregationEvent
unfoldable pub aggregation_event : Data → Result Content Flaw
aggregation_event d = do
  _ ← without_declaration d
  _ ← without_quantities fields.ChildQuantityList d
  head ← head_of d
  action ← action_of d
  parent ← parent_of action d
  children ← epcs_of fields.ChildEpcs d
  Ok (record { id = head.id; instant = head.instant; body = Pack action parent children })

-- what an event that isn't skipped says
abbrev pub kept : Result Content Flaw → Result (Option Content) Flaw
kept read = read >>= λ e. Ok (Some e)

-- an event of this type; None where it is skipped
unfoldable pub event_of_type : List Site → EventType → Data → Result (Option Content) Flaw
event_of_type sites Object d = kept (object_event sites d)
event_of_type sites Transformation d = kept (transformation_event d)
event_of_type sites Aggregation d = kept (aggregation_event d)
event_of_type sites Transaction d = Ok None
event_of_type sites Association d = Ok None

-- an event; None where it is skipped
unfoldable pub event_of : List Site → Data → Result (Option Content) Flaw
event_of sites d = do
  its_type ← event_type d
  event_of_type sites its_type d
