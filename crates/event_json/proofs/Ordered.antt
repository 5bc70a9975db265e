-- The checks of an event, each of which looks at one member, come one after another.
use Rattle.std.proofs.Common.{◌≡◌, ℕ, ◌+◌, Bool, true, false, cond, List, [], ◌∷◌, ◌++◌, length, Option, Some, None, Result, Ok, Err, refl, sym, ap, ◌∙◌, subst}
use Rattle.std.specs.Prelude.{ℤ, codes, is_some, is_none, bytes_eq, ◌==◌, ◌&&◌, ◌||◌, nat_lt}
use Rattle.std.proofs.lemmas.List.{append_assoc}
use Rattle.serde_json.specs.Data.{Data, Items, no_items, item}
use Rattle.serde_json.specs.Find.{as_str, as_array}
use Rattle.jiff.specs.Words.{parse_timestamp}
use Rattle.epc_core.specs.Items.{is_plain}
use Rattle.epc_core.specs.Reading.{reading}
use Rattle.event_json.specs.declared.bodies.Action.{Action}
use Rattle.event_json.specs.declared.bodies.Action.TheVariants.{Add, Observe, Delete}
use Rattle.event_json.specs.declared.bodies.Body.TheVariants.{Make, Pack}
use Rattle.event_json.specs.declared.checks.Head.{Head}
use Rattle.event_json.specs.declared.doc_faults.DocField.{DocField}
use Rattle.event_json.specs.declared.doc_faults.DocField.TheVariants as fields
use Rattle.event_json.specs.declared.doc_faults.DocFaultKind.{DocFaultKind}
use Rattle.event_json.specs.declared.doc_faults.DocFaultKind.TheVariants as kinds
use Rattle.event_json.specs.declared.doc_faults.Flaw.{Flaw}
use Rattle.event_json.specs.declared.event_types.EventType.{EventType}
use Rattle.event_json.specs.declared.event_types.EventType.TheVariants.{Object, Aggregation, Transaction, Transformation, Association}
use Rattle.event_json.specs.Checks.{without_declaration, without_quantities, instant_of, is_offset, offset_checked, head_of, action_checked, action_named, action_of}
use Rattle.event_json.specs.EventReading.{parent_of, aggregation_event, shipment, object_event, made, transformation_event, kept, event_of_type, event_of}
use Rattle.event_json.specs.Events.{Content}
use Rattle.event_json.specs.Faults.{◌>>=◌}
use Rattle.event_json.specs.ItemLists.{limit_checked, epc_of, epcs_of, destination_of, destinations_of}
use Rattle.event_json.specs.Laws.{order_of, HaveSame, IsFaultBy, FaultsComeInOrder, TypesComeFirst}
use Rattle.event_json.specs.Members.{member_of, member_named, or_flaw, text_of, plain_of, identifier_of, list_of, count_of, each}
use Rattle.event_json.specs.Names.{field_name}
use Rattle.event_json.specs.Sites.{Site}

same_err : {A : Type 0} (x y : Flaw) → ◌≡◌ {A = Result A Flaw} (Err x) (Err y) → x ≡ y
same_err x y e = cc

-- what is read comes of these members, and its fault is the first in their order
record Reads {A : Type 0} (order : List (List ℕ)) (read : Data → Result A Flaw) : Type 0 where
  alike : (d e : Data) → HaveSame order d e → read d ≡ read e
  fault : (d : Data) (flaw : Flaw) → read d ≡ Err flaw → IsFaultBy order read d flaw

same_front : (first second : List (List ℕ)) (d e : Data) → HaveSame (first ++ second) d e → HaveSame first d e
same_front [] second d e h = tt
same_front (name ∷ names) second d e h = (h.0, same_front names second d e h.1)

same_back : (first second : List (List ℕ)) (d e : Data) → HaveSame (first ++ second) d e → HaveSame second d e
same_back [] second d e h = h
same_back (name ∷ names) second d e h = same_back names second d e h.1

-- one check after another
then : {A B : Type 0} (first second : List (List ℕ)) (check : Data → Result A Flaw) (rest : A → Data → Result B Flaw)
    → Reads first check → ((x : A) → Reads second (rest x)) → Reads (first ++ second) (λ d. check d >>= λ x. rest x d)
then {A} {B} first second check rest one more = record {
  alike = λ d e h. both (check d) (check e) d e (one.alike d e (same_front first second d e h)) (same_back first second d e h);
  fault = λ d flaw is. by (check d) d refl flaw is;
}
  where
    both : (x y : Result A Flaw) (d e : Data) → x ≡ y → HaveSame second d e → (x >>= λ z. rest z d) ≡ (y >>= λ z. rest z e)
    both (Ok x) y d e same h = subst (λ (t : Result A Flaw). (rest x d) ≡ (t >>= λ z. rest z e)) same ((more x).alike d e h)
    both (Err flaw) y d e same h = subst (λ (t : Result A Flaw). (Err flaw) ≡ (t >>= λ z. rest z e)) same refl

    after : (y : Result A Flaw) (x : A) (e : Data) (flaw : Flaw) → y ≡ Ok x → rest x e ≡ Err flaw → (y >>= λ z. rest z e) ≡ Err flaw
    after y x e flaw is then_is = subst (λ (t : Result A Flaw). (t >>= λ z. rest z e) ≡ Err flaw) (sym is) then_is

    at_once : (y : Result A Flaw) (e : Data) (flaw : Flaw) → y ≡ Err flaw → (y >>= λ z. rest z e) ≡ Err flaw
    at_once y e flaw is = subst (λ (t : Result A Flaw). (t >>= λ z. rest z e) ≡ Err flaw) (sym is) refl

    by : (x : Result A Flaw) (d : Data) → check d ≡ x → (flaw : Flaw) → (x >>= λ z. rest z d) ≡ Err flaw → IsFaultBy (first ++ second) (λ e. check e >>= λ z. rest z e) d flaw
    by (Ok x) d found flaw is =
        let late = (more x).fault d flaw is in
        record {
          earlier = first ++ late.earlier;
          later = late.later;
          stands = ap (λ (l : List (List ℕ)). first ++ l) late.stands ∙ sym (append_assoc first late.earlier (field_name flaw.field ∷ late.later));
          decides = λ e h.
              let same : HaveSame (first ++ (late.earlier ++ field_name flaw.field ∷ [])) d e = subst (λ (l : List (List ℕ)). HaveSame l d e) (append_assoc first late.earlier (field_name flaw.field ∷ [])) h in
              after (check e) x e flaw (sym (one.alike d e (same_front first _ d e same)) ∙ found) (late.decides e (same_back first _ d e same));
        }
    by (Err fault) d found flaw is =
        let early = one.fault d flaw (found ∙ ap Err (same_err {A = B} _ flaw is)) in
        record {
          earlier = early.earlier;
          later = early.later ++ second;
          stands = ap (λ (l : List (List ℕ)). l ++ second) early.stands ∙ append_assoc early.earlier (field_name flaw.field ∷ early.later) second;
          decides = λ e h. at_once (check e) e flaw (early.decides e h);
        }

-- a check of one member
look : {A : Type 0} (field : DocField) (check : Data → Result A Flaw)
    → ((d e : Data) → member_of field d ≡ member_of field e → check d ≡ check e)
    → ((d : Data) (flaw : Flaw) → check d ≡ Err flaw → flaw.field ≡ field)
    → Reads (field_name field ∷ []) check
look field check same named = record {
  alike = λ d e h. same d e h.0;
  fault = λ d flaw is. by d flaw is (named d flaw is);
}
  where
    by : (d : Data) (flaw : Flaw) → check d ≡ Err flaw → flaw.field ≡ field → IsFaultBy (field_name field ∷ []) check d flaw
    by d flaw is at = record {
      earlier = [];
      later = [];
      stands = ap (λ (f : DocField). field_name f ∷ []) (sym at);
      decides = λ e h. sym (same d e (subst (λ (f : DocField). member_named (field_name f) d ≡ member_named (field_name f) e) at h.0)) ∙ is;
    }

-- each fault of a result names this member
names_ok : {A : Type 0} (field : DocField) (x : A) → (flaw : Flaw) → ◌≡◌ {A = Result A Flaw} (Ok x) (Err flaw) → flaw.field ≡ field
names_ok field x flaw is = absurd (let no : ⊥ = cc in no)

names_err : {A : Type 0} (field : DocField) (kind : DocFaultKind) → (flaw : Flaw) → ◌≡◌ {A = Result A Flaw} (Err (record { field = field; kind = kind })) (Err flaw) → flaw.field ≡ field
names_err {A} field kind flaw is = ap (λ (f : Flaw). f.field) (sym (same_err {A = A} _ flaw is))

names_then : {A B : Type 0} (field : DocField) (first : Result A Flaw) (rest : A → Result B Flaw)
    → ((flaw : Flaw) → first ≡ Err flaw → flaw.field ≡ field) → ((x : A) (flaw : Flaw) → rest x ≡ Err flaw → flaw.field ≡ field)
    → (flaw : Flaw) → (first >>= rest) ≡ Err flaw → flaw.field ≡ field
names_then field (Ok x) rest one more flaw is = more x flaw is
names_then {A} field (Err fault) rest one more flaw is = one flaw (ap Err (same_err _ _ is))

names_or : {A : Type 0} (field : DocField) (kind : DocFaultKind) (o : Option A) (flaw : Flaw) → or_flaw (record { field = field; kind = kind }) o ≡ Err flaw → flaw.field ≡ field
names_or {A} field kind None flaw is = names_err {A = A} field kind flaw is
names_or field kind (Some x) flaw is = names_ok field x flaw is

names_if : {A : Type 0} (field : DocField) (b : Bool) (found other : Result A Flaw)
    → ((flaw : Flaw) → found ≡ Err flaw → flaw.field ≡ field) → ((flaw : Flaw) → other ≡ Err flaw → flaw.field ≡ field)
    → (flaw : Flaw) → cond b found other ≡ Err flaw → flaw.field ≡ field
names_if field true found other one two flaw is = one flaw is
names_if field false found other one two flaw is = two flaw is

names_each : {A : Type 0} (field : DocField) (f : Data → Result A Flaw) → ((d : Data) (flaw : Flaw) → f d ≡ Err flaw → flaw.field ≡ field)
    → (n : ℕ) (items : Items) (flaw : Flaw) → each (λ _. f) n items ≡ Err flaw → flaw.field ≡ field
names_each field f named n no_items flaw is = names_ok field _ flaw is
names_each field f named n (item d ds) flaw is =
    names_then field (f d) _ (named d) (λ x. names_then field (each (λ _. f) (n + 1) ds) _ (names_each field f named (n + 1) ds) (λ xs. names_ok field _)) flaw is

names_text : (field : DocField) (o : Option Data) (flaw : Flaw) → text_of field o ≡ Err flaw → flaw.field ≡ field
names_text field o = names_then field _ _ (names_or field kinds.Missing o) (λ d. names_or field kinds.WrongShape (as_str d))

names_plain : (field : DocField) (d : Data) (flaw : Flaw) → plain_of field d ≡ Err flaw → flaw.field ≡ field
names_plain field d = names_then field _ _ (names_or field kinds.WrongShape (as_str d)) (λ text. names_if field (is_plain text) _ _ (names_ok field text) (names_err field kinds.WrongShape))

names_identifier : (field : DocField) (o : Option Data) (flaw : Flaw) → identifier_of field o ≡ Err flaw → flaw.field ≡ field
names_identifier field None = names_ok field None
names_identifier field (Some d) = names_then field (plain_of field d) _ (names_plain field d) (λ text. names_ok field (Some text))

names_list : (field : DocField) (o : Option Data) (flaw : Flaw) → list_of field o ≡ Err flaw → flaw.field ≡ field
names_list field None = names_ok field no_items
names_list field (Some d) = names_or field kinds.WrongShape (as_array d)

names_limit : (field : DocField) (items : Items) (flaw : Flaw) → limit_checked field items ≡ Err flaw → flaw.field ≡ field
unfolding limit_checked
names_limit field items = names_if field (nat_lt 1000 (count_of items)) _ _ (names_err field kinds.TooManyEpcs) (names_ok field tt)

names_epc : (field : DocField) (d : Data) (flaw : Flaw) → epc_of field d ≡ Err flaw → flaw.field ≡ field
unfolding epc_of
names_epc field d flaw is = by (as_str d) refl
  where
    by_text : (text : List ℕ) → as_str d ≡ Some text → (read : Result (List ℕ) _) → reading text ≡ read → flaw.field ≡ field
    by_text text at (Ok key) found = names_ok field key flaw (let one : epc_of field d ≡ Ok key = rw (at, found) refl in sym one ∙ is)
    by_text text at (Err e) found = names_err {A = List ℕ} field kinds.BadEpc flaw (let one : epc_of field d ≡ Err (record { field = field; kind = kinds.BadEpc }) = rw (at, found) refl in sym one ∙ is)

    by : (o : Option (List ℕ)) → as_str d ≡ o → flaw.field ≡ field
    by None at = names_err {A = List ℕ} field kinds.WrongShape flaw (let one : epc_of field d ≡ Err (record { field = field; kind = kinds.WrongShape }) = rw at refl in sym one ∙ is)
    by (Some text) at = by_text text at (reading text) refl

names_epcs : (field : DocField) (d : Data) (flaw : Flaw) → epcs_of field d ≡ Err flaw → flaw.field ≡ field
unfolding epcs_of
names_epcs field d = names_then field _ _ (names_list field (member_of field d))
    (λ items. names_then field (limit_checked field items) _ (names_limit field items) (λ _. names_each field (epc_of field) (names_epc field) 1 items))

names_destination : (d : Data) (flaw : Flaw) → destination_of d ≡ Err flaw → flaw.field ≡ fields.DestinationList
unfolding destination_of
names_destination d = names_if fields.DestinationList _ _ _
    (names_then fields.DestinationList _ _ (names_or fields.DestinationList kinds.Missing (member_named (codes "destination") d)) (names_plain fields.DestinationList))
    (names_err fields.DestinationList kinds.WrongShape)

names_destinations : (d : Data) (flaw : Flaw) → destinations_of d ≡ Err flaw → flaw.field ≡ fields.DestinationList
unfolding destinations_of
names_destinations d = names_then fields.DestinationList _ _ (names_list fields.DestinationList (member_of fields.DestinationList d))
    (λ items. names_then fields.DestinationList (limit_checked fields.DestinationList items) _ (names_limit fields.DestinationList items)
    (λ _. names_each fields.DestinationList destination_of names_destination 1 items))

names_quantities : (field : DocField) (d : Data) (flaw : Flaw) → without_quantities field d ≡ Err flaw → flaw.field ≡ field
unfolding without_quantities
names_quantities field d flaw is = by (member_of field d) refl
  where
    by : (o : Option Data) → member_of field d ≡ o → flaw.field ≡ field
    by None at = names_ok field tt flaw (let one : without_quantities field d ≡ Ok tt = rw at refl in sym one ∙ is)
    by (Some list) at =
        let one : without_quantities field d ≡ (or_flaw (record { field = field; kind = kinds.WrongShape }) (as_array list) >>= λ items. cond (count_of items == 0) (Ok tt) (Err (record { field = field; kind = kinds.Quantities }))) = rw at refl in
        names_then field _ _ (names_or field kinds.WrongShape (as_array list)) (λ items. names_if field (count_of items == 0) _ _ (names_ok field tt) (names_err field kinds.Quantities)) flaw (sym one ∙ is)

names_instant : (text : List ℕ) (flaw : Flaw) → instant_of text ≡ Err flaw → flaw.field ≡ fields.EventTime
unfolding instant_of
names_instant text flaw is = by (parse_timestamp text) refl
  where
    by : (read : Result ℤ _) → parse_timestamp text ≡ read → flaw.field ≡ fields.EventTime
    by (Ok n) found = names_ok fields.EventTime n flaw (let one : instant_of text ≡ Ok n = rw found refl in sym one ∙ is)
    by (Err e) found = names_err {A = ℤ} fields.EventTime kinds.Time flaw (let one : instant_of text ≡ Err (record { field = fields.EventTime; kind = kinds.Time }) = rw found refl in sym one ∙ is)

names_offset : (text : List ℕ) (flaw : Flaw) → offset_checked text ≡ Err flaw → flaw.field ≡ fields.EventTimeZoneOffset
unfolding offset_checked
names_offset text = names_if fields.EventTimeZoneOffset (is_offset text) _ _ (names_ok fields.EventTimeZoneOffset tt) (names_err fields.EventTimeZoneOffset kinds.Offset)

names_parent : (action : Action) (d : Data) (flaw : Flaw) → parent_of action d ≡ Err flaw → flaw.field ≡ fields.ParentId
unfolding parent_of
names_parent action d flaw is = by action is (member_of fields.ParentId d) refl
  where
    named : (action : Action) (value : Data) → parent_of action d ≡ (epc_of fields.ParentId value >>= λ key. Ok (Some key)) → parent_of action d ≡ Err flaw → flaw.field ≡ fields.ParentId
    named action value one is = names_then fields.ParentId (epc_of fields.ParentId value) _ (names_epc fields.ParentId value) (λ key. names_ok fields.ParentId (Some key)) flaw (sym one ∙ is)

    by : (action : Action) → parent_of action d ≡ Err flaw → (o : Option Data) → member_of fields.ParentId d ≡ o → flaw.field ≡ fields.ParentId
    by Add is None at = names_err {A = Option (List ℕ)} fields.ParentId kinds.Missing flaw (let one : parent_of Add d ≡ Err (record { field = fields.ParentId; kind = kinds.Missing }) = rw at refl in sym one ∙ is)
    by Observe is None at = names_ok fields.ParentId None flaw (let one : parent_of Observe d ≡ Ok None = rw at refl in sym one ∙ is)
    by Delete is None at = names_ok fields.ParentId None flaw (let one : parent_of Delete d ≡ Ok None = rw at refl in sym one ∙ is)
    by Add is (Some value) at = named Add value (rw at refl) is
    by Observe is (Some value) at = named Observe value (rw at refl) is
    by Delete is (Some value) at = named Delete value (rw at refl) is

-- nothing more is read
nothing : {A : Type 0} (x : A) → Reads [] (λ _. Ok x)
nothing {A} x = record { alike = λ d e h. refl; fault = λ d flaw is. absurd (let no : ⊥ = cc in no) }

-- what is found either way is read alike
read_so : {A : Type 0} (order : List (List ℕ)) (read other : Data → Result A Flaw) → ((d : Data) → read d ≡ other d) → Reads order read → Reads order other
read_so order read other same reads = record {
  alike = λ d e h. sym (same d) ∙ reads.alike d e h ∙ same e;
  fault = λ d flaw is. so d flaw (reads.fault d flaw (same d ∙ is));
}
  where
    so : (d : Data) (flaw : Flaw) → IsFaultBy order read d flaw → IsFaultBy order other d flaw
    so d flaw by = record { earlier = by.earlier; later = by.later; stands = by.stands; decides = λ e h. sym (same e) ∙ by.decides e h }

-- steps may be put together
together : {A B C : Type 0} (first : Result A Flaw) (second : A → Result B Flaw) (third : B → Result C Flaw)
    → ((first >>= second) >>= third) ≡ (first >>= λ x. second x >>= third)
together (Ok x) second third = refl
together (Err flaw) second third = refl

declaration_read : Reads (codes "errorDeclaration" ∷ []) without_declaration
unfolding without_declaration
declaration_read = look fields.ErrorDeclaration without_declaration (λ d e h. cc)
    (λ d. names_if fields.ErrorDeclaration (is_some (member_of fields.ErrorDeclaration d)) _ _ (names_err fields.ErrorDeclaration kinds.ErrorDeclared) (names_ok fields.ErrorDeclaration tt))

quantities_read : (field : DocField) → Reads (field_name field ∷ []) (without_quantities field)
unfolding without_quantities
quantities_read field = look field (without_quantities field) (λ d e h. cc) (names_quantities field)

epcs_read : (field : DocField) → Reads (field_name field ∷ []) (epcs_of field)
unfolding epcs_of
epcs_read field = look field (epcs_of field) (λ d e h. cc) (names_epcs field)

id_read : Reads (codes "eventID" ∷ []) (λ d. identifier_of fields.EventId (member_of fields.EventId d))
id_read = look fields.EventId _ (λ d e h. ap (identifier_of fields.EventId) h) (λ d. names_identifier fields.EventId (member_of fields.EventId d))

time_read : Reads (codes "eventTime" ∷ []) (λ d. text_of fields.EventTime (member_of fields.EventTime d) >>= instant_of)
time_read = look fields.EventTime _ (λ d e h. ap (λ (o : Option Data). text_of fields.EventTime o >>= instant_of) h)
    (λ d. names_then fields.EventTime _ _ (names_text fields.EventTime (member_of fields.EventTime d)) names_instant)

offset_read : (head : Head) → Reads (codes "eventTimeZoneOffset" ∷ []) (λ d. text_of fields.EventTimeZoneOffset (member_of fields.EventTimeZoneOffset d) >>= λ offset. offset_checked offset >>= λ _. Ok head)
offset_read head = look fields.EventTimeZoneOffset _ (λ d e h. ap (λ (o : Option Data). text_of fields.EventTimeZoneOffset o >>= λ offset. offset_checked offset >>= λ _. Ok head) h)
    (λ d. names_then fields.EventTimeZoneOffset _ _ (names_text fields.EventTimeZoneOffset (member_of fields.EventTimeZoneOffset d))
    (λ offset. names_then fields.EventTimeZoneOffset _ _ (names_offset offset) (λ _. names_ok fields.EventTimeZoneOffset head)))

head_read : Reads (codes "eventID" ∷ codes "eventTime" ∷ codes "eventTimeZoneOffset" ∷ []) head_of
unfolding head_of
head_read = then (codes "eventID" ∷ []) (codes "eventTime" ∷ codes "eventTimeZoneOffset" ∷ []) _ _ id_read
    (λ id. read_so _ _ _ (λ d. together (text_of fields.EventTime (member_of fields.EventTime d)) instant_of _)
    (then (codes "eventTime" ∷ []) (codes "eventTimeZoneOffset" ∷ []) _ (λ instant d. text_of fields.EventTimeZoneOffset (member_of fields.EventTimeZoneOffset d) >>= λ offset. offset_checked offset >>= λ _. Ok (record { id = id; instant = instant })) time_read
    (λ instant. offset_read (record { id = id; instant = instant }))))

text_read : {A : Type 0} (check : List ℕ → Result A Flaw) → ((text : List ℕ) (flaw : Flaw) → check text ≡ Err flaw → flaw.field ≡ fields.Action)
    → Reads (codes "action" ∷ []) (λ d. text_of fields.Action (member_of fields.Action d) >>= check)
text_read check named = look fields.Action _ (λ d e h. ap (λ (o : Option Data). text_of fields.Action o >>= check) h)
    (λ d. names_then fields.Action _ check (names_text fields.Action (member_of fields.Action d)) named)

checked_read : Reads (codes "action" ∷ []) action_checked
unfolding action_checked
checked_read = text_read _ (λ text. names_if fields.Action (bytes_eq text (codes "ADD") || bytes_eq text (codes "OBSERVE") || bytes_eq text (codes "DELETE")) _ _ (names_ok fields.Action tt) (names_err fields.Action kinds.Action))

action_read : Reads (codes "action" ∷ []) action_of
unfolding action_of
action_read = text_read _ (λ text. names_or fields.Action kinds.Action (action_named text))

parent_read : (action : Action) → Reads (codes "parentID" ∷ []) (parent_of action)
unfolding parent_of
parent_read Add = look fields.ParentId (parent_of Add) (λ d e h. rw h refl) (names_parent Add)
parent_read Observe = look fields.ParentId (parent_of Observe) (λ d e h. rw h refl) (names_parent Observe)
parent_read Delete = look fields.ParentId (parent_of Delete) (λ d e h. rw h refl) (names_parent Delete)

-- the last member, and then the event
last : {A B : Type 0} (name : List ℕ) (check : Data → Result A Flaw) (whole : A → B) → Reads (name ∷ []) check → Reads (name ∷ []) (λ d. check d >>= λ x. Ok (whole x))
last name check whole reads = then (name ∷ []) [] check (λ x _. Ok (whole x)) reads (λ x. nothing (whole x))

destinations_read : Reads (codes "destinationList" ∷ []) destinations_of
unfolding destinations_of
destinations_read = look fields.DestinationList destinations_of (λ d e h. cc) names_destinations

object_read : (sites : List Site) → Reads (order_of Object) (object_event sites)
unfolding object_event
object_read sites =
    then (codes "errorDeclaration" ∷ []) _ without_declaration _ declaration_read (λ _.
    then (codes "quantityList" ∷ []) _ (without_quantities fields.QuantityList) _ (quantities_read fields.QuantityList) (λ _.
    then (codes "eventID" ∷ codes "eventTime" ∷ codes "eventTimeZoneOffset" ∷ []) _ head_of _ head_read (λ head.
    then (codes "action" ∷ []) _ action_checked _ checked_read (λ _.
    then (codes "epcList" ∷ []) _ (epcs_of fields.EpcList) _ (epcs_read fields.EpcList) (λ items.
    last (codes "destinationList") destinations_of (λ ds. record { id = head.id; instant = head.instant; body = shipment sites items ds }) destinations_read)))))

-- a transformation's id, and then the event
abbrev made_of : Head → List (List ℕ) → List (List ℕ) → Option Data → Result Content Flaw
made_of head ins outs o = identifier_of fields.TransformationId o >>= λ id. made id ins outs >>= λ body. Ok (record { id = head.id; instant = head.instant; body = body })

made_read : (head : Head) (ins outs : List (List ℕ)) → Reads (codes "transformationID" ∷ []) (λ d. made_of head ins outs (member_of fields.TransformationId d))
made_read head ins outs = look fields.TransformationId _ (λ d e h. ap (made_of head ins outs) h)
    (λ d. names_then fields.TransformationId _ _ (names_identifier fields.TransformationId (member_of fields.TransformationId d))
    (λ id. names_then fields.TransformationId (made id ins outs) _
    (names_if fields.TransformationId (is_none id && ((length ins == 0) || (length outs == 0))) _ _ (names_err fields.TransformationId kinds.HalfTransformation) (names_ok fields.TransformationId (Make id ins outs)))
    (λ body. names_ok fields.TransformationId _)))

transformation_read : Reads (order_of Transformation) transformation_event
unfolding transformation_event
transformation_read =
    then (codes "errorDeclaration" ∷ []) _ without_declaration _ declaration_read (λ _.
    then (codes "inputQuantityList" ∷ []) _ (without_quantities fields.InputQuantityList) _ (quantities_read fields.InputQuantityList) (λ _.
    then (codes "outputQuantityList" ∷ []) _ (without_quantities fields.OutputQuantityList) _ (quantities_read fields.OutputQuantityList) (λ _.
    then (codes "eventID" ∷ codes "eventTime" ∷ codes "eventTimeZoneOffset" ∷ []) _ head_of _ head_read (λ head.
    then (codes "inputEPCList" ∷ []) _ (epcs_of fields.InputEpcList) _ (epcs_read fields.InputEpcList) (λ ins.
    then (codes "outputEPCList" ∷ []) _ (epcs_of fields.OutputEpcList) _ (epcs_read fields.OutputEpcList) (λ outs.
    made_read head ins outs))))))

aggregation_read : Reads (order_of Aggregation) aggregation_event
unfolding aggregation_event
aggregation_read =
    then (codes "errorDeclaration" ∷ []) _ without_declaration _ declaration_read (λ _.
    then (codes "childQuantityList" ∷ []) _ (without_quantities fields.ChildQuantityList) _ (quantities_read fields.ChildQuantityList) (λ _.
    then (codes "eventID" ∷ codes "eventTime" ∷ codes "eventTimeZoneOffset" ∷ []) _ head_of _ head_read (λ head.
    then (codes "action" ∷ []) _ action_of _ action_read (λ action.
    then (codes "parentID" ∷ []) _ (parent_of action) _ (parent_read action) (λ parent.
    last (codes "childEPCs") (epcs_of fields.ChildEpcs) (λ children. record { id = head.id; instant = head.instant; body = Pack action parent children }) (epcs_read fields.ChildEpcs))))))

-- an event that isn't skipped
kept_read : (order : List (List ℕ)) (read : Data → Result Content Flaw) → Reads order read → Reads (order ++ []) (λ d. kept (read d))
kept_read order read reads = then order [] read (λ e _. Ok (Some e)) reads (λ e. nothing (Some e))

type_read : (sites : List Site) (its_type : EventType) → Reads (order_of its_type) (event_of_type sites its_type)
unfolding event_of_type
type_read sites Object = kept_read (order_of Object) (object_event sites) (object_read sites)
type_read sites Transformation = kept_read (order_of Transformation) transformation_event transformation_read
type_read sites Aggregation = kept_read (order_of Aggregation) aggregation_event aggregation_read
type_read sites Transaction = nothing None
type_read sites Association = nothing None

pub in_order : FaultsComeInOrder
in_order sites its_type = let reads = type_read sites its_type in (reads.alike, reads.fault)

pub type_first : TypesComeFirst
unfolding event_of
type_first sites d = (λ its_type is. rw is refl, λ flaw is. rw is refl)
