-- a half or a parent is told to be missing exactly where it is known to be
use Rattle.std.proofs.Common.{◌≡◌, ℕ, Bool, true, false, cond, List, [], ◌∷◌, ◌++◌, Option, Some, None, Result, Ok, Err, length, inl, inr, refl, sym, ap, ◌∙◌, subst, arith}
use mathlib.Core.Bool.{false≢true}
use Rattle.std.proofs.lemmas.Bool.{eqb-true}
use Rattle.std.specs.Prelude.{◌||◌, ◌⊎◌, ⊤}
use Rattle.std.specs.List.{Contains}
use Rattle.std.proofs.lemmas.List.Elements.{Contains-append_cases, Contains-append_left, Contains-append_right}
use Rattle.serde_json.specs.Data.{Data}
use Rattle.serde_json.specs.Find.{as_str}
use Rattle.epc_core.specs.Items.{is_plain}
use Rattle.epc_core.specs.Reading.{reading}
use Rattle.event_json.specs.declared.bodies.Action.{Action}
use Rattle.event_json.specs.declared.bodies.Action.TheVariants.{Add, Observe, Delete}
use Rattle.event_json.specs.declared.doc_faults.DocField.{DocField}
use Rattle.event_json.specs.declared.doc_faults.DocField.TheVariants as fields
use Rattle.event_json.specs.declared.doc_faults.DocFaultKind.{DocFaultKind}
use Rattle.event_json.specs.declared.doc_faults.DocFaultKind.TheVariants as kinds
use Rattle.event_json.specs.declared.doc_faults.Flaw.{Flaw}
use Rattle.event_json.specs.declared.event_types.EventType.{EventType}
use Rattle.event_json.specs.declared.event_types.EventType.TheVariants.{Aggregation, Transformation}
use Rattle.event_json.specs.Checks.{action_of, event_type, without_declaration, without_quantities}
use Rattle.event_json.specs.EventReading.{parent_of}
use Rattle.event_json.specs.Faults.{◌>>=◌}
use Rattle.event_json.specs.ItemLists.{epc_of, epcs_of}
use Rattle.event_json.specs.Members.{identifier_of, member_of, or_flaw}
use Rattle.document_lint.specs.EventFaults.{aggregation_faults, event_faults, faults_in, head_faults, identity_of, is_empty, parent_by, transformation_faults, typed_faults, time_of, zone_of}
use Rattle.document_lint.specs.Laws.{LacksAreTold}
use Rattle.document_lint.specs.declared.findings.What.{What}
use Rattle.document_lint.specs.declared.findings.What.TheVariants.{Fault}
use Rattle.document_lint.proofs.EventFaultLaws.{found_in, half_or, is_found, is_half, known_parent, lacking, missing_or}
use Rattle.document_lint.proofs.Named.{names_action, names_declaration, names_epcs, names_identifier, names_quantities, names_time, names_zone, same_err}

-- ---- where a fault of a member stands

-- not among those of the check of another
away : {A : Type 0} (check : Result A Flaw) (field at : DocField) (kind : DocFaultKind) → ((flaw : Flaw) → check ≡ Err flaw → flaw.field ≡ field)
    → (field ≡ at → ⊥) → Contains (faults_in check) (Fault at kind) → ⊥
away check field at kind named apart has = apart (sym (named (record { field = at; kind = kind }) (found_in check at kind has)))

skip : (first rest : List What) (what : What) → (Contains first what → ⊥) → Contains (first ++ rest) what → Contains rest what
skip first rest what none has = by (Contains-append_cases first rest what has)
  where
    by : Contains first what ⊎ Contains rest what → Contains rest what
    by (inl here) = absurd (none here)
    by (inr there) = there

head_away : (d : Data) (at : DocField) (kind : DocFaultKind) → (fields.EventId ≡ at → ⊥) → (fields.EventTime ≡ at → ⊥) → (fields.EventTimeZoneOffset ≡ at → ⊥)
    → Contains (head_faults d) (Fault at kind) → ⊥
head_away d at kind no_id no_time no_zone has =
    let id = identifier_of fields.EventId (member_of fields.EventId d) in
    away (zone_of d) fields.EventTimeZoneOffset at kind (names_zone d) no_zone
    (skip (faults_in (time_of d)) (faults_in (zone_of d)) (Fault at kind) (away (time_of d) fields.EventTime at kind (names_time d) no_time)
    (skip (faults_in id) (faults_in (time_of d) ++ faults_in (zone_of d)) (Fault at kind)
    (away id fields.EventId at kind (names_identifier fields.EventId (member_of fields.EventId d)) no_id) has))

-- ---- a half

abbrev a_half : What
a_half = Fault fields.TransformationId kinds.HalfTransformation

abbrev last_of : Data → List What
last_of d = faults_in (identity_of (is_half d) d)

abbrev behind_ins : Data → List What
behind_ins d = faults_in (epcs_of fields.OutputEpcList d) ++ last_of d

abbrev behind_head : Data → List What
behind_head d = faults_in (epcs_of fields.InputEpcList d) ++ behind_ins d

abbrev behind_lots : Data → List What
behind_lots d = head_faults d ++ behind_head d

abbrev behind_first : Data → List What
behind_first d = faults_in (without_quantities fields.OutputQuantityList d) ++ behind_lots d

abbrev behind_declaration : Data → List What
behind_declaration d = faults_in (without_quantities fields.InputQuantityList d) ++ behind_first d

half_found : (d : Data) → Contains (transformation_faults d) a_half → identity_of (is_half d) d ≡ Err (half_or kinds.HalfTransformation)
half_found d has =
    found_in (identity_of (is_half d) d) fields.TransformationId kinds.HalfTransformation
    (skip (faults_in (epcs_of fields.OutputEpcList d)) (last_of d) a_half (away (epcs_of fields.OutputEpcList d) fields.OutputEpcList fields.TransformationId kinds.HalfTransformation (names_epcs fields.OutputEpcList d) (λ is. cc))
    (skip (faults_in (epcs_of fields.InputEpcList d)) (behind_ins d) a_half (away (epcs_of fields.InputEpcList d) fields.InputEpcList fields.TransformationId kinds.HalfTransformation (names_epcs fields.InputEpcList d) (λ is. cc))
    (skip (head_faults d) (behind_head d) a_half (head_away d fields.TransformationId kinds.HalfTransformation (λ is. cc) (λ is. cc) (λ is. cc))
    (skip (faults_in (without_quantities fields.OutputQuantityList d)) (behind_lots d) a_half (away (without_quantities fields.OutputQuantityList d) fields.OutputQuantityList fields.TransformationId kinds.HalfTransformation (names_quantities fields.OutputQuantityList d) (λ is. cc))
    (skip (faults_in (without_quantities fields.InputQuantityList d)) (behind_first d) a_half (away (without_quantities fields.InputQuantityList d) fields.InputQuantityList fields.TransformationId kinds.HalfTransformation (names_quantities fields.InputQuantityList d) (λ is. cc))
    (skip (faults_in (without_declaration d)) (behind_declaration d) a_half (away (without_declaration d) fields.ErrorDeclaration fields.TransformationId kinds.HalfTransformation (names_declaration d) (λ is. cc)) has))))))

half_stands : (d : Data) → identity_of (is_half d) d ≡ Err (half_or kinds.HalfTransformation) → Contains (transformation_faults d) a_half
half_stands d is =
    Contains-append_right (faults_in (without_declaration d)) (behind_declaration d) a_half
    (Contains-append_right (faults_in (without_quantities fields.InputQuantityList d)) (behind_first d) a_half
    (Contains-append_right (faults_in (without_quantities fields.OutputQuantityList d)) (behind_lots d) a_half
    (Contains-append_right (head_faults d) (behind_head d) a_half
    (Contains-append_right (faults_in (epcs_of fields.InputEpcList d)) (behind_ins d) a_half
    (Contains-append_right (faults_in (epcs_of fields.OutputEpcList d)) (last_of d) a_half
    (is_found (identity_of (is_half d) d) fields.TransformationId kinds.HalfTransformation is))))))

kind_of : {A : Type 0} (x y : Flaw) → ◌≡◌ {A = Result A Flaw} (Err x) (Err y) → x.kind ≡ y.kind
kind_of {A} x y is = ap (λ (f : Flaw). f.kind) (same_err {A = A} x y is)

abbrev misshapen : DocField → Flaw
misshapen field = record { field = field; kind = kinds.WrongShape }

-- an id's fault is its shape
id_kind : (field : DocField) (o : Option Data) (flaw : Flaw) → identifier_of field o ≡ Err flaw → flaw.kind ≡ kinds.WrongShape
id_kind field None flaw is = absurd (let no : ⊥ = cc in no)
id_kind field (Some d) flaw is = by (as_str d) is
  where
    of_text : (text : List ℕ) (plain : Bool) → (cond plain (Ok text) (Err (misshapen field)) >>= λ t. Ok (Some t)) ≡ Err flaw → flaw.kind ≡ kinds.WrongShape
    of_text text true is = absurd (let no : ⊥ = cc in no)
    of_text text false is = kind_of {A = Option (List ℕ)} flaw (misshapen field) (sym is)

    by : (o : Option (List ℕ)) → ((or_flaw (misshapen field) o >>= λ text. cond (is_plain text) (Ok text) (Err (misshapen field))) >>= λ t. Ok (Some t)) ≡ Err flaw → flaw.kind ≡ kinds.WrongShape
    by None is = kind_of {A = Option (List ℕ)} flaw (misshapen field) (sym is)
    by (Some text) is = of_text text (is_plain text) is

empty_is : (list : Result (List (List ℕ)) Flaw) → is_empty list ≡ true → list ≡ Ok []
empty_is (Ok []) is = refl
empty_is (Ok (x ∷ items)) is = let none : length (x ∷ items) ≡ 0 = eqb-true (length (x ∷ items)) 0 is in absurd (omega (arith, none))
empty_is (Err flaw) is = absurd (false≢true is)

one_empty : (ins outs : Result (List (List ℕ)) Flaw) → (is_empty ins || is_empty outs) ≡ true → (ins ≡ Ok []) ⊎ (outs ≡ Ok [])
one_empty ins outs is = by (is_empty ins) refl is
  where
    by : (b : Bool) → is_empty ins ≡ b → (b || is_empty outs) ≡ true → (ins ≡ Ok []) ⊎ (outs ≡ Ok [])
    by true first both = inl (empty_is ins first)
    by false first both = inr (empty_is outs both)

is_one : (ins outs : Result (List (List ℕ)) Flaw) → (ins ≡ Ok []) ⊎ (outs ≡ Ok []) → (is_empty ins || is_empty outs) ≡ true
is_one ins outs (inl is) = ap (λ (l : Result (List (List ℕ)) Flaw). is_empty l || is_empty outs) is
is_one ins outs (inr is) = by (is_empty ins) (is_empty outs) (ap is_empty is)
  where
    by : (b c : Bool) → c ≡ true → (b || c) ≡ true
    by true c is = refl
    by false c is = is

lacks : (id : Result (Option (List ℕ)) Flaw) (half : Bool) → ((flaw : Flaw) → id ≡ Err flaw → flaw.kind ≡ kinds.WrongShape)
    → lacking half id ≡ Err (half_or kinds.HalfTransformation) → (id ≡ Ok None) × (half ≡ true)
lacks (Ok None) true shaped is = (refl, refl)
lacks (Ok None) false shaped is = absurd (let no : ⊥ = cc in no)
lacks (Ok (Some id)) half shaped is = absurd (let no : ⊥ = cc in no)
lacks (Err flaw) half shaped is =
    absurd (let other : kinds.HalfTransformation ≡ kinds.WrongShape = sym (kind_of {A = ⊤} flaw (half_or kinds.HalfTransformation) is) ∙ shaped flaw refl in let no : ⊥ = cc in no)

-- ---- a parent

abbrev no_parent : What
no_parent = Fault fields.ParentId kinds.Missing

abbrev behind_action : Data → List What
behind_action d = faults_in (parent_by (action_of d) d) ++ faults_in (epcs_of fields.ChildEpcs d)

abbrev behind_events : Data → List What
behind_events d = faults_in (action_of d) ++ behind_action d

abbrev behind_quantities : Data → List What
behind_quantities d = head_faults d ++ behind_events d

abbrev behind_errors : Data → List What
behind_errors d = faults_in (without_quantities fields.ChildQuantityList d) ++ behind_quantities d

parent_found : (d : Data) → Contains (aggregation_faults d) no_parent → parent_by (action_of d) d ≡ Err (missing_or kinds.Missing)
parent_found d has =
    let here =
    skip (faults_in (action_of d)) (behind_action d) no_parent (away (action_of d) fields.Action fields.ParentId kinds.Missing (names_action d) (λ is. cc))
    (skip (head_faults d) (behind_events d) no_parent (head_away d fields.ParentId kinds.Missing (λ is. cc) (λ is. cc) (λ is. cc))
    (skip (faults_in (without_quantities fields.ChildQuantityList d)) (behind_quantities d) no_parent (away (without_quantities fields.ChildQuantityList d) fields.ChildQuantityList fields.ParentId kinds.Missing (names_quantities fields.ChildQuantityList d) (λ is. cc))
    (skip (faults_in (without_declaration d)) (behind_errors d) no_parent (away (without_declaration d) fields.ErrorDeclaration fields.ParentId kinds.Missing (names_declaration d) (λ is. cc)) has))) in
    by (Contains-append_cases (faults_in (parent_by (action_of d) d)) (faults_in (epcs_of fields.ChildEpcs d)) no_parent here)
  where
    by : Contains (faults_in (parent_by (action_of d) d)) no_parent ⊎ Contains (faults_in (epcs_of fields.ChildEpcs d)) no_parent → parent_by (action_of d) d ≡ Err (missing_or kinds.Missing)
    by (inl found) = found_in (parent_by (action_of d) d) fields.ParentId kinds.Missing found
    by (inr other) = absurd (away (epcs_of fields.ChildEpcs d) fields.ChildEpcs fields.ParentId kinds.Missing (names_epcs fields.ChildEpcs d) (λ is. cc) other)

parent_stands : (d : Data) → parent_by (action_of d) d ≡ Err (missing_or kinds.Missing) → Contains (aggregation_faults d) no_parent
parent_stands d is =
    Contains-append_right (faults_in (without_declaration d)) (behind_errors d) no_parent
    (Contains-append_right (faults_in (without_quantities fields.ChildQuantityList d)) (behind_quantities d) no_parent
    (Contains-append_right (head_faults d) (behind_events d) no_parent
    (Contains-append_right (faults_in (action_of d)) (behind_action d) no_parent
    (Contains-append_left (faults_in (parent_by (action_of d) d)) (faults_in (epcs_of fields.ChildEpcs d)) no_parent
    (is_found (parent_by (action_of d) d) fields.ParentId kinds.Missing is)))))

-- a parent that is named isn't missing
epc_is_not_missing : (value : Data) → epc_of fields.ParentId value ≡ Err (missing_or kinds.Missing) → ⊥
unfolding epc_of
epc_is_not_missing value is = by (as_str value) refl
  where
    by_text : (text : List ℕ) → as_str value ≡ Some text → (read : Result (List ℕ) _) → reading text ≡ read → ⊥
    by_text text at (Ok key) found = let one : epc_of fields.ParentId value ≡ Ok key = rw (at, found) refl in cc
    by_text text at (Err e) found =
        let one : epc_of fields.ParentId value ≡ Err (missing_or kinds.BadEpc) = rw (at, found) refl in
        let other : kinds.BadEpc ≡ kinds.Missing = kind_of {A = List ℕ} (missing_or kinds.BadEpc) (missing_or kinds.Missing) (sym one ∙ is) in
        cc

    by : (o : Option (List ℕ)) → as_str value ≡ o → ⊥
    by None at =
        let one : epc_of fields.ParentId value ≡ Err (missing_or kinds.WrongShape) = rw at refl in
        let other : kinds.WrongShape ≡ kinds.Missing = kind_of {A = List ℕ} (missing_or kinds.WrongShape) (missing_or kinds.Missing) (sym one ∙ is) in
        cc
    by (Some text) at = by_text text at (reading text) refl

named_is_not_missing : (d value : Data) → member_of fields.ParentId d ≡ Some value → parent_of Observe d ≡ Err (missing_or kinds.Missing) → ⊥
unfolding parent_of
named_is_not_missing d value some is =
    let one : parent_of Observe d ≡ (epc_of fields.ParentId value >>= λ key. Ok (Some key)) = rw some refl in
    epc_is_not_missing value (by (epc_of fields.ParentId value) (sym one ∙ is))
  where
    by : (read : Result (List ℕ) Flaw) → (read >>= λ key. Ok (Some key)) ≡ Err (missing_or kinds.Missing) → read ≡ Err (missing_or kinds.Missing)
    by (Ok key) is = absurd (let no : ⊥ = cc in no)
    by (Err flaw) is = ap Err (same_err {A = Option (List ℕ)} flaw (missing_or kinds.Missing) is)

absent_by : (action : Result Action Flaw) (d : Data) → member_of fields.ParentId d ≡ None → parent_by action d ≡ Err (missing_or kinds.Missing) → action ≡ Ok Add
unfolding parent_of
absent_by (Ok Add) d none is = refl
absent_by (Ok Observe) d none is = absurd (let found : parent_of Observe d ≡ Ok None = rw none refl in let no : ⊥ = cc in no)
absent_by (Ok Delete) d none is = absurd (let found : parent_of Delete d ≡ Ok None = rw none refl in let no : ⊥ = cc in no)
absent_by (Err flaw) d none is = absurd (let found : parent_of Observe d ≡ Ok None = rw none refl in let no : ⊥ = cc in no)

missing_by : (d : Data) → parent_by (action_of d) d ≡ Err (missing_or kinds.Missing) → (action_of d ≡ Ok Add) × (member_of fields.ParentId d ≡ None)
missing_by d is = by (member_of fields.ParentId d) refl
  where
    by : (o : Option Data) → member_of fields.ParentId d ≡ o → (action_of d ≡ Ok Add) × (member_of fields.ParentId d ≡ None)
    by None none = (absent_by (action_of d) d none is, none)
    by (Some value) some = absurd (named_is_not_missing d value some (sym (known_parent (action_of d) d value some) ∙ is))

is_missing : (d : Data) → action_of d ≡ Ok Add → member_of fields.ParentId d ≡ None → parent_by (action_of d) d ≡ Err (missing_or kinds.Missing)
unfolding parent_of
is_missing d add none = ap (λ (a : Result Action Flaw). parent_by a d) add ∙ rw none refl

-- ---- the law

typed : (d : Data) (its_type : EventType) (what : What) → event_type d ≡ Ok its_type → Contains (event_faults d) what → Contains (typed_faults (Ok its_type) d) what
typed d its_type what is has = subst (λ (t : Result EventType Flaw). Contains (typed_faults t d) what) is has

untyped : (d : Data) (its_type : EventType) (what : What) → event_type d ≡ Ok its_type → Contains (typed_faults (Ok its_type) d) what → Contains (event_faults d) what
untyped d its_type what is has = subst (λ (t : Result EventType Flaw). Contains (typed_faults t d) what) (sym is) has

pub lacks_are_told : LacksAreTold
lacks_are_told = record {
  half = λ d is. (
    λ told.
        let both = lacks (identifier_of fields.TransformationId (member_of fields.TransformationId d)) (is_half d) (id_kind fields.TransformationId (member_of fields.TransformationId d)) (half_found d (typed d Transformation a_half is told)) in
        (both.0, one_empty (epcs_of fields.InputEpcList d) (epcs_of fields.OutputEpcList d) both.1),
    λ lack.
        let halved : is_half d ≡ true = is_one (epcs_of fields.InputEpcList d) (epcs_of fields.OutputEpcList d) lack.1 in
        untyped d Transformation a_half is (half_stands d (ap (λ (b : Bool). identity_of b d) halved ∙ ap (lacking true) lack.0)),
  );
  parent = λ d is. (
    λ told. missing_by d (parent_found d (typed d Aggregation no_parent is told)),
    λ lack. untyped d Aggregation no_parent is (parent_stands d (is_missing d lack.0 lack.1)),
  );
}
