-- a fault that a check finds is one of its member
use Rattle.std.proofs.Common.{◌≡◌, ℕ, ◌+◌, Bool, true, false, cond, List, Option, Some, None, Result, Ok, Err, refl, sym, ap, ◌∙◌}
use Rattle.std.specs.Prelude.{ℤ, codes, is_none, is_some, bytes_eq, ◌==◌, ◌&&◌, ◌||◌, nat_lt}
use Rattle.serde_json.specs.Data.{Data, Items, no_items, item}
use Rattle.serde_json.specs.Find.{as_str, as_array}
use Rattle.jiff.specs.Words.{parse_timestamp}
use Rattle.epc_core.specs.Items.{is_plain}
use Rattle.epc_core.specs.Reading.{reading}
use Rattle.event_json.specs.declared.bodies.Action.{Action}
use Rattle.event_json.specs.declared.bodies.Action.TheVariants.{Add, Observe, Delete}
use Rattle.event_json.specs.declared.doc_faults.DocField.{DocField}
use Rattle.event_json.specs.declared.doc_faults.DocField.TheVariants as fields
use Rattle.event_json.specs.declared.doc_faults.DocFaultKind.{DocFaultKind}
use Rattle.event_json.specs.declared.doc_faults.DocFaultKind.TheVariants as kinds
use Rattle.event_json.specs.declared.doc_faults.Flaw.{Flaw}
use Rattle.event_json.specs.Checks.{action_checked, action_named, action_of, instant_of, is_offset, offset_checked, without_declaration, without_quantities}
use Rattle.event_json.specs.EventReading.{parent_of}
use Rattle.event_json.specs.Faults.{◌>>=◌}
use Rattle.event_json.specs.ItemLists.{limit_checked, epc_of, epcs_of, destination_of, destinations_of}
use Rattle.event_json.specs.Members.{member_of, member_named, or_flaw, text_of, plain_of, identifier_of, list_of, count_of, each}
use Rattle.document_lint.specs.EventFaults.{identity_of, parent_by, time_of, zone_of}

-- equal faults
pub same_err : {A : Type 0} (x y : Flaw) → ◌≡◌ {A = Result A Flaw} (Err x) (Err y) → x ≡ y
same_err x y e = cc

-- each fault of a result names this member
names_ok : {A : Type 0} (field : DocField) (x : A) → (flaw : Flaw) → ◌≡◌ {A = Result A Flaw} (Ok x) (Err flaw) → flaw.field ≡ field
names_ok field x flaw is = absurd (let no : ⊥ = cc in no)

names_err : {A : Type 0} (field : DocField) (kind : DocFaultKind) → (flaw : Flaw) → ◌≡◌ {A = Result A Flaw} (Err (record { field = field; kind = kind })) (Err flaw) → flaw.field ≡ field
names_err {A} field kind flaw is = ap (λ (f : Flaw). f.field) (sym (same_err {A = A} _ flaw is))

names_then : {A B : Type 0} (field : DocField) (first : Result A Flaw) (rest : A → Result B Flaw)
    → ((flaw : Flaw) → first ≡ Err flaw → flaw.field ≡ field) → ((x : A) (flaw : Flaw) → rest x ≡ Err flaw → flaw.field ≡ field)
    → (flaw : Flaw) → (first >>= rest) ≡ Err flaw → flaw.field ≡ field
names_then field (Ok x) rest one more flaw is = more x flaw is
names_then {A} field (Err fault) rest one more flaw is = one flaw (ap Err (same_err _ _ is))

names_or : {A : Type 0} (field : DocField) (kind : DocFaultKind) (o : Option A) (flaw : Flaw) → or_flaw (record { field = field; kind = kind }) o ≡ Err flaw → flaw.field ≡ field
names_or {A} field kind None flaw is = names_err {A = A} field kind flaw is
names_or field kind (Some x) flaw is = names_ok field x flaw is

names_if : {A : Type 0} (field : DocField) (b : Bool) (found other : Result A Flaw)
    → ((flaw : Flaw) → found ≡ Err flaw → flaw.field ≡ field) → ((flaw : Flaw) → other ≡ Err flaw → flaw.field ≡ field)
    → (flaw : Flaw) → cond b found other ≡ Err flaw → flaw.field ≡ field
names_if field true found other one two flaw is = one flaw is
names_if field false found other one two flaw is = two flaw is

names_each : {A : Type 0} (field : DocField) (f : Data → Result A Flaw) → ((d : Data) (flaw : Flaw) → f d ≡ Err flaw → flaw.field ≡ field)
    → (n : ℕ) (items : Items) (flaw : Flaw) → each (λ _. f) n items ≡ Err flaw → flaw.field ≡ field
names_each field f named n no_items flaw is = names_ok field _ flaw is
names_each field f named n (item d ds) flaw is =
    names_then field (f d) _ (named d) (λ x. names_then field (each (λ _. f) (n + 1) ds) _ (names_each field f named (n + 1) ds) (λ xs. names_ok field _)) flaw is

names_text : (field : DocField) (o : Option Data) (flaw : Flaw) → text_of field o ≡ Err flaw → flaw.field ≡ field
names_text field o = names_then field _ _ (names_or field kinds.Missing o) (λ d. names_or field kinds.WrongShape (as_str d))

names_plain : (field : DocField) (d : Data) (flaw : Flaw) → plain_of field d ≡ Err flaw → flaw.field ≡ field
names_plain field d = names_then field _ _ (names_or field kinds.WrongShape (as_str d)) (λ text. names_if field (is_plain text) _ _ (names_ok field text) (names_err field kinds.WrongShape))

pub names_identifier : (field : DocField) (o : Option Data) (flaw : Flaw) → identifier_of field o ≡ Err flaw → flaw.field ≡ field
names_identifier field None = names_ok field None
names_identifier field (Some d) = names_then field (plain_of field d) _ (names_plain field d) (λ text. names_ok field (Some text))

names_list : (field : DocField) (o : Option Data) (flaw : Flaw) → list_of field o ≡ Err flaw → flaw.field ≡ field
names_list field None = names_ok field no_items
names_list field (Some d) = names_or field kinds.WrongShape (as_array d)

names_limit : (field : DocField) (items : Items) (flaw : Flaw) → limit_checked field items ≡ Err flaw → flaw.field ≡ field
unfolding limit_checked
names_limit field items = names_if field (nat_lt 1000 (count_of items)) _ _ (names_err field kinds.TooManyEpcs) (names_ok field tt)

names_epc : (field : DocField) (d : Data) (flaw : Flaw) → epc_of field d ≡ Err flaw → flaw.field ≡ field
unfolding epc_of
names_epc field d flaw is = by (as_str d) refl
  where
    by_text : (text : List ℕ) → as_str d ≡ Some text → (read : Result (List ℕ) _) → reading text ≡ read → flaw.field ≡ field
    by_text text at (Ok key) found = names_ok field key flaw (let one : epc_of field d ≡ Ok key = rw (at, found) refl in sym one ∙ is)
    by_text text at (Err e) found = names_err {A = List ℕ} field kinds.BadEpc flaw (let one : epc_of field d ≡ Err (record { field = field; kind = kinds.BadEpc }) = rw (at, found) refl in sym one ∙ is)

    by : (o : Option (List ℕ)) → as_str d ≡ o → flaw.field ≡ field
    by None at = names_err {A = List ℕ} field kinds.WrongShape flaw (let one : epc_of field d ≡ Err (record { field = field; kind = kinds.WrongShape }) = rw at refl in sym one ∙ is)
    by (Some text) at = by_text text at (reading text) refl

pub names_epcs : (field : DocField) (d : Data) (flaw : Flaw) → epcs_of field d ≡ Err flaw → flaw.field ≡ field
unfolding epcs_of
names_epcs field d = names_then field _ _ (names_list field (member_of field d))
    (λ items. names_then field (limit_checked field items) _ (names_limit field items) (λ _. names_each field (epc_of field) (names_epc field) 1 items))

names_destination : (d : Data) (flaw : Flaw) → destination_of d ≡ Err flaw → flaw.field ≡ fields.DestinationList
unfolding destination_of
names_destination d = names_if fields.DestinationList _ _ _
    (names_then fields.DestinationList _ _ (names_or fields.DestinationList kinds.Missing (member_named (codes "destination") d)) (names_plain fields.DestinationList))
    (names_err fields.DestinationList kinds.WrongShape)

pub names_destinations : (d : Data) (flaw : Flaw) → destinations_of d ≡ Err flaw → flaw.field ≡ fields.DestinationList
unfolding destinations_of
names_destinations d = names_then fields.DestinationList _ _ (names_list fields.DestinationList (member_of fields.DestinationList d))
    (λ items. names_then fields.DestinationList (limit_checked fields.DestinationList items) _ (names_limit fields.DestinationList items)
    (λ _. names_each fields.DestinationList destination_of names_destination 1 items))

pub names_quantities : (field : DocField) (d : Data) (flaw : Flaw) → without_quantities field d ≡ Err flaw → flaw.field ≡ field
unfolding without_quantities
names_quantities field d flaw is = by (member_of field d) refl
  where
    by : (o : Option Data) → member_of field d ≡ o → flaw.field ≡ field
    by None at = names_ok field tt flaw (let one : without_quantities field d ≡ Ok tt = rw at refl in sym one ∙ is)
    by (Some list) at =
        let one : without_quantities field d ≡ (or_flaw (record { field = field; kind = kinds.WrongShape }) (as_array list) >>= λ items. cond (count_of items == 0) (Ok tt) (Err (record { field = field; kind = kinds.Quantities }))) = rw at refl in
        names_then field _ _ (names_or field kinds.WrongShape (as_array list)) (λ items. names_if field (count_of items == 0) _ _ (names_ok field tt) (names_err field kinds.Quantities)) flaw (sym one ∙ is)

names_instant : (text : List ℕ) (flaw : Flaw) → instant_of text ≡ Err flaw → flaw.field ≡ fields.EventTime
unfolding instant_of
names_instant text flaw is = by (parse_timestamp text) refl
  where
    by : (read : Result ℤ _) → parse_timestamp text ≡ read → flaw.field ≡ fields.EventTime
    by (Ok n) found = names_ok fields.EventTime n flaw (let one : instant_of text ≡ Ok n = rw found refl in sym one ∙ is)
    by (Err e) found = names_err {A = ℤ} fields.EventTime kinds.Time flaw (let one : instant_of text ≡ Err (record { field = fields.EventTime; kind = kinds.Time }) = rw found refl in sym one ∙ is)

names_offset : (text : List ℕ) (flaw : Flaw) → offset_checked text ≡ Err flaw → flaw.field ≡ fields.EventTimeZoneOffset
unfolding offset_checked
names_offset text = names_if fields.EventTimeZoneOffset (is_offset text) _ _ (names_ok fields.EventTimeZoneOffset tt) (names_err fields.EventTimeZoneOffset kinds.Offset)

names_parent : (action : Action) (d : Data) (flaw : Flaw) → parent_of action d ≡ Err flaw → flaw.field ≡ fields.ParentId
unfolding parent_of
names_parent action d flaw is = by action is (member_of fields.ParentId d) refl
  where
    named : (action : Action) (value : Data) → parent_of action d ≡ (epc_of fields.ParentId value >>= λ key. Ok (Some key)) → parent_of action d ≡ Err flaw → flaw.field ≡ fields.ParentId
    named action value one is = names_then fields.ParentId (epc_of fields.ParentId value) _ (names_epc fields.ParentId value) (λ key. names_ok fields.ParentId (Some key)) flaw (sym one ∙ is)

    by : (action : Action) → parent_of action d ≡ Err flaw → (o : Option Data) → member_of fields.ParentId d ≡ o → flaw.field ≡ fields.ParentId
    by Add is None at = names_err {A = Option (List ℕ)} fields.ParentId kinds.Missing flaw (let one : parent_of Add d ≡ Err (record { field = fields.ParentId; kind = kinds.Missing }) = rw at refl in sym one ∙ is)
    by Observe is None at = names_ok fields.ParentId None flaw (let one : parent_of Observe d ≡ Ok None = rw at refl in sym one ∙ is)
    by Delete is None at = names_ok fields.ParentId None flaw (let one : parent_of Delete d ≡ Ok None = rw at refl in sym one ∙ is)
    by Add is (Some value) at = named Add value (rw at refl) is
    by Observe is (Some value) at = named Observe value (rw at refl) is
    by Delete is (Some value) at = named Delete value (rw at refl) is

pub names_declaration : (d : Data) (flaw : Flaw) → without_declaration d ≡ Err flaw → flaw.field ≡ fields.ErrorDeclaration
unfolding without_declaration
names_declaration d = names_if fields.ErrorDeclaration (is_some (member_of fields.ErrorDeclaration d)) _ _ (names_err fields.ErrorDeclaration kinds.ErrorDeclared) (names_ok fields.ErrorDeclaration tt)

pub names_time : (d : Data) (flaw : Flaw) → time_of d ≡ Err flaw → flaw.field ≡ fields.EventTime
names_time d = names_then fields.EventTime _ _ (names_text fields.EventTime (member_of fields.EventTime d)) names_instant

pub names_zone : (d : Data) (flaw : Flaw) → zone_of d ≡ Err flaw → flaw.field ≡ fields.EventTimeZoneOffset
names_zone d = names_then fields.EventTimeZoneOffset _ _ (names_text fields.EventTimeZoneOffset (member_of fields.EventTimeZoneOffset d)) names_offset

pub names_checked : (d : Data) (flaw : Flaw) → action_checked d ≡ Err flaw → flaw.field ≡ fields.Action
unfolding action_checked
names_checked d = names_then fields.Action _ _ (names_text fields.Action (member_of fields.Action d))
    (λ text. names_if fields.Action (bytes_eq text (codes "ADD") || bytes_eq text (codes "OBSERVE") || bytes_eq text (codes "DELETE")) _ _ (names_ok fields.Action tt) (names_err fields.Action kinds.Action))

pub names_action : (d : Data) (flaw : Flaw) → action_of d ≡ Err flaw → flaw.field ≡ fields.Action
unfolding action_of
names_action d = names_then fields.Action _ _ (names_text fields.Action (member_of fields.Action d)) (λ text. names_or fields.Action kinds.Action (action_named text))

pub names_known_parent : (action : Result Action Flaw) (d : Data) (flaw : Flaw) → parent_by action d ≡ Err flaw → flaw.field ≡ fields.ParentId
names_known_parent (Ok action) d = names_parent action d
names_known_parent (Err fault) d = names_parent Observe d

pub names_identity : (is_half : Bool) (d : Data) (flaw : Flaw) → identity_of is_half d ≡ Err flaw → flaw.field ≡ fields.TransformationId
names_identity is_half d = names_then fields.TransformationId _ _ (names_identifier fields.TransformationId (member_of fields.TransformationId d))
    (λ id. names_if fields.TransformationId (is_none id && is_half) _ _ (names_err fields.TransformationId kinds.HalfTransformation) (names_ok fields.TransformationId tt))
