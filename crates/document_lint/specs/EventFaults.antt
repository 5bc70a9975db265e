-- Every fault of an event. Each check looks at one member of the event's JSON value, and is made whatever the others find: so a member has one
-- fault, the first that its check finds, or none. The members of an event are looked at by its type: without one, that is its only fault.
use Rattle.std.specs.Prelude.{ℕ, ℤ, Bool, false, ◌&&◌, ◌||◌, ◌==◌, if◌then◌else◌, List, [], ◌∷◌, ◌++◌, length, Option, is_none, Result, Ok, Err, ⊤}
use Rattle.serde_json.specs.Data.{Data}
use Rattle.event_json.specs.declared.bodies.Action.{Action}
use Rattle.event_json.specs.declared.bodies.Action.TheVariants.{Observe}
use Rattle.event_json.specs.declared.doc_faults.DocField.TheVariants as fields
use Rattle.event_json.specs.declared.doc_faults.DocFaultKind.TheVariants as kinds
use Rattle.event_json.specs.declared.doc_faults.Flaw.{Flaw}
use Rattle.event_json.specs.declared.event_types.EventType.{EventType}
use Rattle.event_json.specs.declared.event_types.EventType.TheVariants.{Object, Aggregation, Transaction, Transformation, Association}
use Rattle.event_json.specs.Checks.{action_checked, action_of, event_type, instant_of, offset_checked, without_declaration, without_quantities}
use Rattle.event_json.specs.EventReading.{parent_of}
use Rattle.event_json.specs.Faults.{◌>>=◌}
use Rattle.event_json.specs.ItemLists.{destinations_of, epcs_of}
use Rattle.event_json.specs.Members.{identifier_of, member_of, text_of}
use Rattle.document_lint.specs.declared.findings.What.{What}
use Rattle.document_lint.specs.declared.findings.What.TheVariants.{Fault}

-- the fault that a check finds, if it does
abbrev pub faults_in : {A : Type 0} → Result A Flaw → List What
faults_in (Ok x) = []
faults_in (Err flaw) = Fault flaw.field flaw.kind ∷ []

-- ---- members of every event

abbrev pub time_of : Data → Result ℤ Flaw
time_of d = text_of fields.EventTime (member_of fields.EventTime d) >>= instant_of

abbrev pub zone_of : Data → Result ⊤ Flaw
zone_of d = text_of fields.EventTimeZoneOffset (member_of fields.EventTimeZoneOffset d) >>= offset_checked

abbrev pub head_faults : Data → List What
head_faults d = faults_in (identifier_of fields.EventId (member_of fields.EventId d)) ++ (faults_in (time_of d) ++ faults_in (zone_of d))

-- ---- ObjectEvent

abbrev pub object_faults : Data → List What
object_faults d =
    faults_in (without_declaration d)
    ++ (faults_in (without_quantities fields.QuantityList d)
    ++ (head_faults d ++ (faults_in (action_checked d) ++ (faults_in (epcs_of fields.EpcList d) ++ faults_in (destinations_of d)))))

-- ---- TransformationEvent

-- a list is read, and has no item
abbrev pub is_empty : Result (List (List ℕ)) Flaw → Bool
is_empty (Ok items) = length items == 0
is_empty (Err flaw) = false

-- one that lacks a half, since this list is empty or that, needs an id, by which several events tell of one transformation
abbrev pub identity_of : Bool → Data → Result ⊤ Flaw
identity_of is_half d =
    identifier_of fields.TransformationId (member_of fields.TransformationId d)
    >>= λ id. if is_none id && is_half then Err (record { field = fields.TransformationId; kind = kinds.HalfTransformation }) else Ok tt

abbrev pub transformation_faults : Data → List What
transformation_faults d =
    faults_in (without_declaration d)
    ++ (faults_in (without_quantities fields.InputQuantityList d)
    ++ (faults_in (without_quantities fields.OutputQuantityList d)
    ++ (head_faults d
    ++ (faults_in (epcs_of fields.InputEpcList d)
    ++ (faults_in (epcs_of fields.OutputEpcList d)
    ++ faults_in (identity_of (is_empty (epcs_of fields.InputEpcList d) || is_empty (epcs_of fields.OutputEpcList d)) d))))))

-- ---- AggregationEvent

-- a parent may be absent by what was done to the children; where that isn't known it may, too
abbrev pub parent_by : Result Action Flaw → Data → Result (Option (List ℕ)) Flaw
parent_by (Ok action) d = parent_of action d
parent_by (Err flaw) d = parent_of Observe d

abbrev pub aggregation_faults : Data → List What
aggregation_faults d =
    faults_in (without_declaration d)
    ++ (faults_in (without_quantities fields.ChildQuantityList d)
    ++ (head_faults d ++ (faults_in (action_of d) ++ (faults_in (parent_by (action_of d) d) ++ faults_in (epcs_of fields.ChildEpcs d)))))

-- ---- an event

-- those of an event of this type; of one that is skipped nothing else is looked at
abbrev pub faults_by : EventType → Data → List What
faults_by Object d = object_faults d
faults_by Transformation d = transformation_faults d
faults_by Aggregation d = aggregation_faults d
faults_by Transaction d = []
faults_by Association d = []

abbrev pub typed_faults : Result EventType Flaw → Data → List What
typed_faults (Ok its_type) d = faults_by its_type d
typed_faults (Err flaw) d = Fault flaw.field flaw.kind ∷ []

-- all faults of an event, in the order of their checks
abbrev pub event_faults : Data → List What
event_faults d = typed_faults (event_type d) d
