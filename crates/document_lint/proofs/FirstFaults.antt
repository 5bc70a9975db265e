-- the first of an event's faults is the one that it is refused for, and it has none where it is read
use Rattle.std.proofs.Common.{◌≡◌, ℕ, Bool, true, false, cond, List, [], ◌∷◌, ◌++◌, Option, Result, Ok, Err, length, refl, ap, ◌∙◌}
use Rattle.std.specs.Prelude.{is_none, ◌==◌, ◌||◌, ◌&&◌, ⊤}
use Rattle.serde_json.specs.Data.{Data}
use Rattle.event_json.specs.declared.bodies.Body.{Body}
use Rattle.event_json.specs.declared.bodies.Body.TheVariants.{Make, Pack}
use Rattle.event_json.specs.declared.doc_faults.DocField.TheVariants as fields
use Rattle.event_json.specs.declared.doc_faults.DocFaultKind.TheVariants as kinds
use Rattle.event_json.specs.declared.doc_faults.Flaw.{Flaw}
use Rattle.event_json.specs.declared.event_types.EventType.{EventType}
use Rattle.event_json.specs.declared.event_types.EventType.TheVariants.{Object, Aggregation, Transaction, Transformation, Association}
use Rattle.event_json.specs.Checks.{action_checked, action_of, event_type, head_of, instant_of, offset_checked, without_declaration, without_quantities}
use Rattle.event_json.specs.EventReading.{aggregation_event, event_of, event_of_type, kept, made, object_event, parent_of, shipment, transformation_event}
use Rattle.event_json.specs.Events.{Content}
use Rattle.event_json.specs.Faults.{◌>>=◌}
use Rattle.event_json.specs.ItemLists.{destinations_of, epcs_of}
use Rattle.event_json.specs.Members.{identifier_of, member_of, text_of}
use Rattle.event_json.specs.Sites.{Site}
use Rattle.document_lint.specs.EventFaults.{aggregation_faults, event_faults, faults_by, faults_in, head_faults, object_faults, transformation_faults, typed_faults, time_of, zone_of}
use Rattle.document_lint.specs.declared.findings.What.{What}
use Rattle.document_lint.specs.declared.findings.What.TheVariants.{Fault}

-- there is no fault of what is read, and the first is that of what isn't
abbrev pub Lead : {A : Type 0} → List What → Result A Flaw → Type 0
Lead faults (Ok x) = faults ≡ []
Lead faults (Err flaw) = (rest : List What) × (faults ≡ Fault flaw.field flaw.kind ∷ rest)

-- one check, and those behind it
then : {A B : Type 0} (check : Result A Flaw) (rest : List What) (f : A → Result B Flaw) → ((x : A) → check ≡ Ok x → Lead rest (f x)) → Lead (faults_in check ++ rest) (check >>= f)
then (Ok x) rest f more = more x refl
then (Err flaw) rest f more = (rest, refl)

-- several checks, and those behind them
behind : {B : Type 0} (first rest : List What) (read : Result B Flaw) → first ≡ [] → Lead rest read → Lead (first ++ rest) read
behind first rest (Ok y) none lead = ap (λ (l : List What). l ++ rest) none ∙ lead
behind first rest (Err flaw) none lead = (lead.0, ap (λ (l : List What). l ++ rest) none ∙ lead.1)

both : {A B : Type 0} (first : List What) (check : Result A Flaw) (rest : List What) (f : A → Result B Flaw) → Lead first check → ((x : A) → Lead rest (f x)) → Lead (first ++ rest) (check >>= f)
both first (Ok x) rest f lead more = behind first rest (f x) lead (more x)
both first (Err flaw) rest f lead more = (lead.0 ++ rest, ap (λ (l : List What). l ++ rest) lead.1)

-- a check of two steps, and those behind it
stepped : {A B C : Type 0} (check : Result A Flaw) (next : A → Result B Flaw) (rest : List What) (f : B → Result C Flaw)
    → ((y : B) → Lead rest (f y)) → Lead (faults_in (check >>= next) ++ rest) (check >>= λ x. next x >>= f)
stepped (Ok x) next rest f more = then (next x) rest f (λ y _. more y)
stepped (Err flaw) next rest f more = (rest, refl)

-- the last check
last : {A B : Type 0} (check : Result A Flaw) (f : A → B) → Lead (faults_in check) (check >>= λ x. Ok (f x))
last (Ok x) f = refl
last (Err flaw) f = ([], refl)

stepped_last : {A B C : Type 0} (check : Result A Flaw) (next : A → Result B Flaw) (f : B → C) → Lead (faults_in (check >>= next)) (check >>= λ x. next x >>= λ y. Ok (f y))
stepped_last (Ok x) next f = last (next x) f
stepped_last (Err flaw) next f = ([], refl)

head_leads : (d : Data) → Lead (head_faults d) (head_of d)
unfolding head_of
head_leads d =
    then (identifier_of fields.EventId (member_of fields.EventId d)) (faults_in (time_of d) ++ faults_in (zone_of d)) _ (λ id _.
    stepped (text_of fields.EventTime (member_of fields.EventTime d)) instant_of (faults_in (zone_of d)) _ (λ instant.
    stepped_last (text_of fields.EventTimeZoneOffset (member_of fields.EventTimeZoneOffset d)) offset_checked (λ _. record { id = id; instant = instant })))

object_leads : (sites : List Site) (d : Data) → Lead (object_faults d) (object_event sites d)
unfolding object_event
object_leads sites d =
    then (without_declaration d) _ _ (λ _ _.
    then (without_quantities fields.QuantityList d) _ _ (λ _ _.
    both (head_faults d) (head_of d) _ _ (head_leads d) (λ head.
    then (action_checked d) _ _ (λ _ _.
    then (epcs_of fields.EpcList d) _ _ (λ items _.
    last (destinations_of d) (λ destinations. record { id = head.id; instant = head.instant; body = shipment sites items destinations }))))))

abbrev lacks : Bool → Result ⊤ Flaw
lacks is_half = cond is_half (Err (record { field = fields.TransformationId; kind = kinds.HalfTransformation })) (Ok tt)

-- a transformation of lists that are read
made_leads : (id : Result (Option (List ℕ)) Flaw) (ins outs : List (List ℕ)) (f : Body → Content)
    → Lead (faults_in (id >>= λ named. lacks (is_none named && ((length ins == 0) || (length outs == 0)))))
    (id >>= λ named. made named ins outs >>= λ body. Ok (f body))
made_leads (Err flaw) ins outs f = ([], refl)
made_leads (Ok named) ins outs f = by (is_none named && ((length ins == 0) || (length outs == 0)))
  where
    by : (is_half : Bool) → Lead (faults_in (lacks is_half))
        (cond is_half (Err (record { field = fields.TransformationId; kind = kinds.HalfTransformation })) (Ok (Make named ins outs)) >>= λ body. Ok (f body))
    by true = ([], refl)
    by false = refl

transformation_leads : (d : Data) → Lead (transformation_faults d) (transformation_event d)
unfolding transformation_event
transformation_leads d =
    then (without_declaration d) _ _ (λ _ _.
    then (without_quantities fields.InputQuantityList d) _ _ (λ _ _.
    then (without_quantities fields.OutputQuantityList d) _ _ (λ _ _.
    both (head_faults d) (head_of d) _ _ (head_leads d) (λ head.
    then (epcs_of fields.InputEpcList d) _ _ (λ ins read_ins.
    then (epcs_of fields.OutputEpcList d) _ _ (λ outs read_outs.
    rw (read_ins, read_outs) (made_leads (identifier_of fields.TransformationId (member_of fields.TransformationId d)) ins outs (λ body. record { id = head.id; instant = head.instant; body = body }))))))))

aggregation_leads : (d : Data) → Lead (aggregation_faults d) (aggregation_event d)
unfolding aggregation_event
aggregation_leads d =
    then (without_declaration d) _ _ (λ _ _.
    then (without_quantities fields.ChildQuantityList d) _ _ (λ _ _.
    both (head_faults d) (head_of d) _ _ (head_leads d) (λ head.
    then (action_of d) _ _ (λ action read_action.
    rw read_action (
    then (parent_of action d) _ _ (λ parent _.
    last (epcs_of fields.ChildEpcs d) (λ children. record { id = head.id; instant = head.instant; body = Pack action parent children })))))))

kept_leads : (faults : List What) (read : Result Content Flaw) → Lead faults read → Lead faults (kept read)
kept_leads faults (Ok e) lead = lead
kept_leads faults (Err flaw) lead = lead

type_leads : (sites : List Site) (its_type : EventType) (d : Data) → Lead (faults_by its_type d) (event_of_type sites its_type d)
unfolding event_of_type
type_leads sites Object d = kept_leads (object_faults d) (object_event sites d) (object_leads sites d)
type_leads sites Transformation d = kept_leads (transformation_faults d) (transformation_event d) (transformation_leads d)
type_leads sites Aggregation d = kept_leads (aggregation_faults d) (aggregation_event d) (aggregation_leads d)
type_leads sites Transaction d = refl
type_leads sites Association d = refl

pub event_leads : (sites : List Site) (d : Data) → Lead (event_faults d) (event_of sites d)
unfolding event_of
event_leads sites d = by (event_type d)
  where
    by : (its_type : Result EventType Flaw) → Lead (typed_faults its_type d) (its_type >>= λ t. event_of_type sites t d)
    by (Ok its_type) = type_leads sites its_type d
    by (Err flaw) = ([], refl)
