-- the faults of an event come of its members, each of its own, in their order
use Rattle.std.proofs.Common.{◌≡◌, ℕ, Bool, true, false, cond, List, [], ◌∷◌, ◌++◌, Option, Some, None, Result, Ok, Err, inl, inr, refl, sym, ap, ◌∙◌, subst, append_assoc, arith}
use Rattle.std.specs.Prelude.{codes, is_none, is_ok, ◌&&◌, ◌||◌, ◌⊎◌, ⊤}
use Rattle.std.specs.List.{Contains}
use Rattle.std.proofs.lemmas.List.Elements.{Contains-append_cases, Contains-append_left, Contains-append_right, Contains-push, Contains-push_cases}
use Rattle.serde_json.specs.Data.{Data}
use Rattle.event_json.specs.declared.bodies.Action.{Action}
use Rattle.event_json.specs.declared.bodies.Action.TheVariants.{Add, Observe, Delete}
use Rattle.event_json.specs.declared.doc_faults.DocField.{DocField}
use Rattle.event_json.specs.declared.doc_faults.DocField.TheVariants as fields
use Rattle.event_json.specs.declared.doc_faults.DocFaultKind.{DocFaultKind}
use Rattle.event_json.specs.declared.doc_faults.DocFaultKind.TheVariants as kinds
use Rattle.event_json.specs.declared.doc_faults.Flaw.{Flaw}
use Rattle.event_json.specs.declared.event_types.EventType.{EventType}
use Rattle.event_json.specs.declared.event_types.EventType.TheVariants.{Object, Aggregation, Transaction, Transformation, Association}
use Rattle.event_json.specs.Checks.{action_checked, action_of, event_type, instant_of, offset_checked, without_declaration, without_quantities}
use Rattle.event_json.specs.EventReading.{event_of, parent_of}
use Rattle.event_json.specs.Events.{Content}
use Rattle.event_json.specs.Faults.{◌>>=◌}
use Rattle.event_json.specs.ItemLists.{destinations_of, epcs_of}
use Rattle.event_json.specs.Laws.{HaveSame, order_of}
use Rattle.event_json.specs.Members.{identifier_of, member_of, text_of}
use Rattle.event_json.specs.Names.{field_name}
use Rattle.document_lint.specs.EventFaults.{aggregation_faults, event_faults, faults_by, faults_in, head_faults, identity_of, is_empty, object_faults, parent_by, transformation_faults, typed_faults, time_of, zone_of}
use Rattle.document_lint.specs.Laws.{AreAlikeFor, AreFaultsOf, FaultsStandAlone, IsTold, MembersAreTold, others_of}
use Rattle.document_lint.specs.declared.findings.What.{What}
use Rattle.document_lint.specs.declared.findings.What.TheVariants.{Fault}
use Rattle.document_lint.proofs.FirstFaults.{Lead, event_leads}
use Rattle.document_lint.proofs.Named.{names_action, names_checked, names_declaration, names_destinations, names_epcs, names_identifier, names_identity, names_known_parent, names_quantities, names_time, names_zone, same_err}

-- ---- each at most once, in order

record Are (names : List (List ℕ)) (found : List What) : Type 0 where
  are : AreFaultsOf names found

one : {A : Type 0} (field : DocField) (check : Result A Flaw) (names : List (List ℕ)) (rest : List What)
    → ((flaw : Flaw) → check ≡ Err flaw → flaw.field ≡ field) → Are names rest → Are (field_name field ∷ names) (faults_in check ++ rest)
one field (Ok x) names rest named more = record { are = inl more.are }
one field (Err flaw) names rest named more = record { are = inr (flaw.field, flaw.kind, rest, ap field_name (sym (named flaw refl)), refl, more.are) }

last : {A : Type 0} (field : DocField) (check : Result A Flaw) → ((flaw : Flaw) → check ≡ Err flaw → flaw.field ≡ field) → Are (field_name field ∷ []) (faults_in check)
last field (Ok x) named = record { are = inl refl }
last field (Err flaw) named = record { are = inr (flaw.field, flaw.kind, [], ap field_name (sym (named flaw refl)), refl, refl) }

heads : (d : Data) (names : List (List ℕ)) (rest : List What) → Are names rest
    → Are (codes "eventID" ∷ codes "eventTime" ∷ codes "eventTimeZoneOffset" ∷ names) (head_faults d ++ rest)
heads d names rest more =
    let id = faults_in (identifier_of fields.EventId (member_of fields.EventId d)) in
    let time = faults_in (time_of d) in
    let zone = faults_in (zone_of d) in
    subst (Are (codes "eventID" ∷ codes "eventTime" ∷ codes "eventTimeZoneOffset" ∷ names))
    (sym (append_assoc id (time ++ zone) rest ∙ ap (λ (l : List What). id ++ l) (append_assoc time zone rest)))
    (one fields.EventId (identifier_of fields.EventId (member_of fields.EventId d)) _ _ (names_identifier fields.EventId (member_of fields.EventId d))
    (one fields.EventTime (time_of d) _ _ (names_time d)
    (one fields.EventTimeZoneOffset (zone_of d) _ _ (names_zone d) more)))

objects : (d : Data) → Are (order_of Object) (object_faults d)
objects d =
    one fields.ErrorDeclaration (without_declaration d) _ _ (names_declaration d)
    (one fields.QuantityList (without_quantities fields.QuantityList d) _ _ (names_quantities fields.QuantityList d)
    (heads d _ _
    (one fields.Action (action_checked d) _ _ (names_checked d)
    (one fields.EpcList (epcs_of fields.EpcList d) _ _ (names_epcs fields.EpcList d)
    (last fields.DestinationList (destinations_of d) (names_destinations d))))))

transformations : (d : Data) → Are (order_of Transformation) (transformation_faults d)
transformations d =
    let is_half = is_empty (epcs_of fields.InputEpcList d) || is_empty (epcs_of fields.OutputEpcList d) in
    one fields.ErrorDeclaration (without_declaration d) _ _ (names_declaration d)
    (one fields.InputQuantityList (without_quantities fields.InputQuantityList d) _ _ (names_quantities fields.InputQuantityList d)
    (one fields.OutputQuantityList (without_quantities fields.OutputQuantityList d) _ _ (names_quantities fields.OutputQuantityList d)
    (heads d _ _
    (one fields.InputEpcList (epcs_of fields.InputEpcList d) _ _ (names_epcs fields.InputEpcList d)
    (one fields.OutputEpcList (epcs_of fields.OutputEpcList d) _ _ (names_epcs fields.OutputEpcList d)
    (last fields.TransformationId (identity_of is_half d) (names_identity is_half d)))))))

aggregations : (d : Data) → Are (order_of Aggregation) (aggregation_faults d)
aggregations d =
    one fields.ErrorDeclaration (without_declaration d) _ _ (names_declaration d)
    (one fields.ChildQuantityList (without_quantities fields.ChildQuantityList d) _ _ (names_quantities fields.ChildQuantityList d)
    (heads d _ _
    (one fields.Action (action_of d) _ _ (names_action d)
    (one fields.ParentId (parent_by (action_of d) d) _ _ (names_known_parent (action_of d) d)
    (last fields.ChildEpcs (epcs_of fields.ChildEpcs d) (names_epcs fields.ChildEpcs d))))))

ordered : (its_type : EventType) (d : Data) → Are (order_of its_type) (faults_by its_type d)
ordered Object d = objects d
ordered Transformation d = transformations d
ordered Aggregation d = aggregations d
ordered Transaction d = record { are = refl }
ordered Association d = record { are = refl }

pub members_are_told : MembersAreTold
members_are_told d = (
  λ its_type is. subst (λ (t : Result EventType Flaw). AreFaultsOf (order_of its_type) (typed_faults t d)) (sym is) (ordered its_type d).are,
  λ flaw is. ap (λ (t : Result EventType Flaw). typed_faults t d) is,
)

-- ---- each of its own member

-- a value that has the same members for a fault has it, too
record Local (faults : Data → List What) : Type 0 where
  stays : (d e : Data) (field : DocField) (kind : DocFaultKind) → HaveSame (field_name field ∷ others_of field kind) d e → Contains (faults d) (Fault field kind) → Contains (faults e) (Fault field kind)

both : (first second : Data → List What) → Local first → Local second → Local (λ d. first d ++ second d)
both first second one two = record {
  stays = λ d e field kind same has. by d e field kind same (Contains-append_cases (first d) (second d) (Fault field kind) has);
}
  where
    by : (d e : Data) (field : DocField) (kind : DocFaultKind) → HaveSame (field_name field ∷ others_of field kind) d e → Contains (first d) (Fault field kind) ⊎ Contains (second d) (Fault field kind)
        → Contains (first e ++ second e) (Fault field kind)
    by d e field kind same (inl has) = Contains-append_left (first e) (second e) (Fault field kind) (one.stays d e field kind same has)
    by d e field kind same (inr has) = Contains-append_right (first e) (second e) (Fault field kind) (two.stays d e field kind same has)

pub none_in : {X : Type 0} (x : X) → Contains [] x → ⊥
none_in x has = omega (arith, has.1)

only_in : {X : Type 0} (y x : X) → Contains (y ∷ []) x → y ≡ x
only_in y x has = by (Contains-push_cases [] y x has)
  where
    by : Contains [] x ⊎ (y ≡ x) → y ≡ x
    by (inl empty) = absurd (none_in x empty)
    by (inr is) = is

same_fault : (f g : DocField) (k l : DocFaultKind) → Fault f k ≡ Fault g l → (f ≡ g) × (k ≡ l)
same_fault f g k l is = (cc, cc)

same_flaw : (f g : DocField) (k l : DocFaultKind) → f ≡ g → k ≡ l → ◌≡◌ {A = Flaw} (record { field = f; kind = k }) (record { field = g; kind = l })
same_flaw f g k l fields_same kinds_same = cc

-- the fault that a check finds
pub found_in : {A : Type 0} (check : Result A Flaw) (field : DocField) (kind : DocFaultKind) → Contains (faults_in check) (Fault field kind) → check ≡ Err (record { field = field; kind = kind })
found_in (Ok x) field kind has = absurd (none_in (Fault field kind) has)
found_in (Err flaw) field kind has =
    let same = same_fault flaw.field field flaw.kind kind (only_in (Fault flaw.field flaw.kind) (Fault field kind) has) in
    ap Err (same_flaw flaw.field field flaw.kind kind same.0 same.1)

pub is_found : {A : Type 0} (check : Result A Flaw) (field : DocField) (kind : DocFaultKind) → check ≡ Err (record { field = field; kind = kind }) → Contains (faults_in check) (Fault field kind)
is_found check field kind is = subst (λ (r : Result _ Flaw). Contains (faults_in r) (Fault field kind)) (sym is) (Contains-push [] (Fault field kind))

-- a check of a member and of others, where its fault comes of them
alone : {A : Type 0} (field : DocField) (check : Data → Result A Flaw) → ((d : Data) (flaw : Flaw) → check d ≡ Err flaw → flaw.field ≡ field)
    → ((d e : Data) (kind : DocFaultKind) → HaveSame (field_name field ∷ others_of field kind) d e → check d ≡ Err (record { field = field; kind = kind }) → check e ≡ Err (record { field = field; kind = kind }))
    → Local (λ d. faults_in (check d))
alone field check named alike = record {
  stays = λ d e at kind same has.
      let is = found_in (check d) at kind has in
      by d e at (named d _ is) kind same is;
}
  where
    by : (d e : Data) (at : DocField) → at ≡ field → (kind : DocFaultKind) → HaveSame (field_name at ∷ others_of at kind) d e → check d ≡ Err (record { field = at; kind = kind }) → Contains (faults_in (check e)) (Fault at kind)
    by d e at is_at kind same is =
        subst (λ (f : DocField). Contains (faults_in (check e)) (Fault f kind)) (sym is_at)
        (is_found (check e) field kind (alike d e kind
        (subst (λ (f : DocField). HaveSame (field_name f ∷ others_of f kind) d e) is_at same)
        (subst (λ (f : DocField). check d ≡ Err (record { field = f; kind = kind })) is_at is)))

-- a check of one member
look : {A : Type 0} (field : DocField) (check : Data → Result A Flaw) → ((d : Data) (flaw : Flaw) → check d ≡ Err flaw → flaw.field ≡ field)
    → ((d e : Data) → member_of field d ≡ member_of field e → check d ≡ check e) → Local (λ d. faults_in (check d))
look field check named alike = alone field check named (λ d e kind same is. sym (alike d e same.0) ∙ is)

declaration : Local (λ d. faults_in (without_declaration d))
unfolding without_declaration
declaration = look fields.ErrorDeclaration without_declaration names_declaration (λ d e h. cc)

quantities : (field : DocField) → Local (λ d. faults_in (without_quantities field d))
unfolding without_quantities
quantities field = look field (without_quantities field) (names_quantities field) (λ d e h. cc)

same_epcs : (field : DocField) (d e : Data) → member_of field d ≡ member_of field e → epcs_of field d ≡ epcs_of field e
unfolding epcs_of
same_epcs field d e h = cc

epcs : (field : DocField) → Local (λ d. faults_in (epcs_of field d))
epcs field = look field (epcs_of field) (names_epcs field) (same_epcs field)

destinations : Local (λ d. faults_in (destinations_of d))
unfolding destinations_of
destinations = look fields.DestinationList destinations_of names_destinations (λ d e h. cc)

head : Local head_faults
head =
    both _ _ (look fields.EventId (λ d. identifier_of fields.EventId (member_of fields.EventId d)) (λ d. names_identifier fields.EventId (member_of fields.EventId d)) (λ d e h. ap (identifier_of fields.EventId) h))
    (both _ _ (look fields.EventTime time_of names_time (λ d e h. ap (λ (o : Option Data). text_of fields.EventTime o >>= instant_of) h))
    (look fields.EventTimeZoneOffset zone_of names_zone (λ d e h. ap (λ (o : Option Data). text_of fields.EventTimeZoneOffset o >>= offset_checked) h)))

checked : Local (λ d. faults_in (action_checked d))
unfolding action_checked
checked = look fields.Action action_checked names_checked (λ d e h. cc)

same_action : (d e : Data) → member_of fields.Action d ≡ member_of fields.Action e → action_of d ≡ action_of e
unfolding action_of
same_action d e h = cc

action : Local (λ d. faults_in (action_of d))
action = look fields.Action action_of names_action same_action

-- ---- what children were put into

abbrev pub missing_or : DocFaultKind → Flaw
missing_or kind = record { field = fields.ParentId; kind = kind }

-- where a parent is named, the action doesn't matter
named_parent : (action : Action) (d : Data) (value : Data) → member_of fields.ParentId d ≡ Some value → parent_of action d ≡ parent_of Observe d
unfolding parent_of
named_parent Add d value is = rw is refl
named_parent Observe d value is = refl
named_parent Delete d value is = refl

pub known_parent : (action : Result Action Flaw) (d : Data) (value : Data) → member_of fields.ParentId d ≡ Some value → parent_by action d ≡ parent_of Observe d
known_parent (Ok action) d value is = named_parent action d value is
known_parent (Err flaw) d value is = refl

same_parent : (action : Action) (d e : Data) → member_of fields.ParentId d ≡ member_of fields.ParentId e → parent_of action d ≡ parent_of action e
unfolding parent_of
same_parent Add d e h = rw h refl
same_parent Observe d e h = rw h refl
same_parent Delete d e h = rw h refl

same_known : (action : Result Action Flaw) (d e : Data) → member_of fields.ParentId d ≡ member_of fields.ParentId e → parent_by action d ≡ parent_by action e
same_known (Ok action) d e h = same_parent action d e h
same_known (Err flaw) d e h = same_parent Observe d e h

-- one that is absent is missing, or may be absent
absent_parent : (action : Action) (d : Data) (kind : DocFaultKind) → member_of fields.ParentId d ≡ None → parent_of action d ≡ Err (missing_or kind) → kind ≡ kinds.Missing
unfolding parent_of
absent_parent Add d kind none is =
    let found : parent_of Add d ≡ Err (missing_or kinds.Missing) = rw none refl in
    ap (λ (f : Flaw). f.kind) (same_err {A = Option (List ℕ)} (missing_or kind) (missing_or kinds.Missing) (sym is ∙ found))
absent_parent Observe d kind none is = let found : parent_of Observe d ≡ Ok None = rw none refl in cc
absent_parent Delete d kind none is = let found : parent_of Delete d ≡ Ok None = rw none refl in cc

absent_known : (action : Result Action Flaw) (d : Data) (kind : DocFaultKind) → member_of fields.ParentId d ≡ None → parent_by action d ≡ Err (missing_or kind) → kind ≡ kinds.Missing
absent_known (Ok action) d kind none is = absent_parent action d kind none is
absent_known (Err flaw) d kind none is = absent_parent Observe d kind none is

parent : Local (λ d. faults_in (parent_by (action_of d) d))
parent = alone fields.ParentId (λ d. parent_by (action_of d) d) (λ d. names_known_parent (action_of d) d) (λ d e kind same is. by d e kind same is (member_of fields.ParentId d) refl)
  where
    missing : (d e : Data) (kind : DocFaultKind) → kind ≡ kinds.Missing → HaveSame (codes "parentID" ∷ others_of fields.ParentId kind) d e → parent_by (action_of d) d ≡ parent_by (action_of e) e
    missing d e kind is same =
        let both_same : HaveSame (codes "parentID" ∷ codes "action" ∷ []) d e = subst (λ (k : DocFaultKind). HaveSame (codes "parentID" ∷ others_of fields.ParentId k) d e) is same in
        same_known (action_of d) d e both_same.0 ∙ ap (λ (a : Result Action Flaw). parent_by a e) (same_action d e both_same.1.0)

    by : (d e : Data) (kind : DocFaultKind) → HaveSame (codes "parentID" ∷ others_of fields.ParentId kind) d e → parent_by (action_of d) d ≡ Err (missing_or kind)
        → (found : Option Data) → member_of fields.ParentId d ≡ found → parent_by (action_of e) e ≡ Err (missing_or kind)
    by d e kind same is None none = sym (missing d e kind (absent_known (action_of d) d kind none is) same) ∙ is
    by d e kind same is (Some value) some =
        known_parent (action_of e) e value (sym same.0 ∙ some) ∙ sym (same_parent Observe d e same.0) ∙ sym (known_parent (action_of d) d value some) ∙ is

-- ---- the id of a transformation

abbrev pub half_or : DocFaultKind → Flaw
half_or kind = record { field = fields.TransformationId; kind = kind }

abbrev pub is_half : Data → Bool
is_half d = is_empty (epcs_of fields.InputEpcList d) || is_empty (epcs_of fields.OutputEpcList d)

same_half : (d e : Data) → member_of fields.InputEpcList d ≡ member_of fields.InputEpcList e → member_of fields.OutputEpcList d ≡ member_of fields.OutputEpcList e → is_half d ≡ is_half e
same_half d e ins outs =
    ap (λ (l : Result (List (List ℕ)) Flaw). is_empty l || is_empty (epcs_of fields.OutputEpcList d)) (same_epcs fields.InputEpcList d e ins)
    ∙ ap (λ (l : Result (List (List ℕ)) Flaw). is_empty (epcs_of fields.InputEpcList e) || is_empty l) (same_epcs fields.OutputEpcList d e outs)

abbrev pub lacking : Bool → Result (Option (List ℕ)) Flaw → Result ⊤ Flaw
lacking half id = id >>= λ named. cond (is_none named && half) (Err (half_or kinds.HalfTransformation)) (Ok tt)

identity : Local (λ d. faults_in (identity_of (is_half d) d))
identity = alone fields.TransformationId (λ d. identity_of (is_half d) d) (λ d. names_identity (is_half d) d)
    (λ d e kind same is. by d e kind same is (identifier_of fields.TransformationId (member_of fields.TransformationId d)) refl)
  where
    same_id : (d e : Data) → member_of fields.TransformationId d ≡ member_of fields.TransformationId e → (half : Bool) → identity_of half d ≡ identity_of half e
    same_id d e h half = ap (λ (o : Option Data). lacking half (identifier_of fields.TransformationId o)) h

    halved : (d e : Data) (kind : DocFaultKind) → kind ≡ kinds.HalfTransformation → HaveSame (codes "transformationID" ∷ others_of fields.TransformationId kind) d e
        → identity_of (is_half d) d ≡ identity_of (is_half e) e
    halved d e kind is same =
        let all_same : HaveSame (codes "transformationID" ∷ codes "inputEPCList" ∷ codes "outputEPCList" ∷ []) d e = subst (λ (k : DocFaultKind). HaveSame (codes "transformationID" ∷ others_of fields.TransformationId k) d e) is same in
        same_id d e all_same.0 (is_half d) ∙ ap (λ (half : Bool). identity_of half e) (same_half d e all_same.1.0 all_same.1.1.0)

    lacks : (named : Option (List ℕ)) (half : Bool) (kind : DocFaultKind) → lacking half (Ok named) ≡ Err (half_or kind) → kind ≡ kinds.HalfTransformation
    lacks None true kind is = ap (λ (f : Flaw). f.kind) (same_err {A = ⊤} (half_or kind) (half_or kinds.HalfTransformation) (sym is))
    lacks None false kind is = cc
    lacks (Some id) half kind is = cc

    by : (d e : Data) (kind : DocFaultKind) → HaveSame (codes "transformationID" ∷ others_of fields.TransformationId kind) d e → identity_of (is_half d) d ≡ Err (half_or kind)
        → (id : Result (Option (List ℕ)) Flaw) → identifier_of fields.TransformationId (member_of fields.TransformationId d) ≡ id → identity_of (is_half e) e ≡ Err (half_or kind)
    by d e kind same is (Ok named) read =
        let at : lacking (is_half d) (Ok named) ≡ Err (half_or kind) = ap (lacking (is_half d)) (sym read) ∙ is in
        sym (halved d e kind (lacks named (is_half d) kind at) same) ∙ is
    by d e kind same is (Err flaw) read =
        let there : identifier_of fields.TransformationId (member_of fields.TransformationId e) ≡ Err flaw = ap (identifier_of fields.TransformationId) (sym same.0) ∙ read in
        ap (lacking (is_half e)) there ∙ sym (ap (lacking (is_half d)) read) ∙ is

-- ---- an event

of_type : (its_type : EventType) → Local (faults_by its_type)
of_type Object = both _ _ declaration (both _ _ (quantities fields.QuantityList) (both _ _ head (both _ _ checked (both _ _ (epcs fields.EpcList) destinations))))
of_type Transformation =
    both _ _ declaration (both _ _ (quantities fields.InputQuantityList) (both _ _ (quantities fields.OutputQuantityList) (both _ _ head
    (both _ _ (epcs fields.InputEpcList) (both _ _ (epcs fields.OutputEpcList) identity)))))
of_type Aggregation = both _ _ declaration (both _ _ (quantities fields.ChildQuantityList) (both _ _ head (both _ _ action (both _ _ parent (epcs fields.ChildEpcs)))))
of_type Transaction = record { stays = λ d e field kind same has. has }
of_type Association = record { stays = λ d e field kind same has. has }

stays_told : (d e : Data) (flaw : Flaw) → AreAlikeFor flaw d e → IsTold d flaw → IsTold e flaw
stays_told d e flaw alike told = by (event_type d) refl
  where
    by : (its_type : Result EventType Flaw) → event_type d ≡ its_type → IsTold e flaw
    by (Ok its_type) is =
        subst (λ (t : Result EventType Flaw). Contains (typed_faults t e) (Fault flaw.field flaw.kind)) (sym is ∙ alike.typed)
        ((of_type its_type).stays d e flaw.field flaw.kind alike.same (subst (λ (t : Result EventType Flaw). Contains (typed_faults t d) (Fault flaw.field flaw.kind)) is told))
    by (Err fault) is =
        subst (λ (t : Result EventType Flaw). Contains (typed_faults t e) (Fault flaw.field flaw.kind)) (sym is ∙ alike.typed)
        (subst (λ (t : Result EventType Flaw). Contains (typed_faults t d) (Fault flaw.field flaw.kind)) is told)

turned : (names : List (List ℕ)) (d e : Data) → HaveSame names d e → HaveSame names e d
turned [] d e same = tt
turned (name ∷ names) d e same = (sym same.0, turned names d e same.1)

read_has_none : (read : Result (Option Content) Flaw) (faults : List What) (what : What) → Lead faults read → Contains faults what → is_ok read ≡ true → ⊥
read_has_none (Ok e) faults what none has is = none_in what (subst (λ (l : List What). Contains l what) none has)
read_has_none (Err flaw) faults what lead has is = cc

refused_is_first : (read : Result (Option Content) Flaw) (faults : List What) (flaw : Flaw) → Lead faults read → read ≡ Err flaw → Contains faults (Fault flaw.field flaw.kind)
refused_is_first read faults flaw lead is =
    let first : Lead {A = Option Content} faults (Err flaw) = subst (λ (r : Result (Option Content) Flaw). Lead faults r) is lead in
    subst (λ (l : List What). Contains l (Fault flaw.field flaw.kind)) (sym first.1)
    (Contains-append_left (Fault flaw.field flaw.kind ∷ []) first.0 (Fault flaw.field flaw.kind) (Contains-push [] (Fault flaw.field flaw.kind)))

pub faults_stand_alone : FaultsStandAlone
faults_stand_alone = record {
  refuses = λ sites d e flaw alike told is. read_has_none (event_of sites e) (event_faults e) (Fault flaw.field flaw.kind) (event_leads sites e) (stays_told d e flaw alike told) is;
  told = λ sites d e flaw alike is.
      stays_told e d flaw (record { typed = sym alike.typed; same = turned (field_name flaw.field ∷ others_of flaw.field flaw.kind) d e alike.same }) (refused_is_first (event_of sites e) (event_faults e) flaw (event_leads sites e) is);
}
