-- A time can name the instant of each event that was read of a document.
use Rattle.std.proofs.Common.{◌≡◌, ℕ, ◌+◌, List, Option, Some, None, Result, Ok, Err, refl, sym, ◌∙◌, subst, All}
use Rattle.std.specs.Prelude.{⊤, filter_map}
use Rattle.std.specs.List.{cons_option}
use Rattle.std.proofs.lemmas.List.Elements.{All-nil, All-cons}
use Rattle.jiff.specs.Words.{IsTimestampNanos}
use Rattle.serde_json.specs.Data.{Data, Items, no_items, item}
use Rattle.serde_json.specs.Read.{read}
use Rattle.event_json.specs.declared.bodies.Body.{Body}
use Rattle.event_json.specs.declared.checks.Head.{Head}
use Rattle.event_json.specs.declared.doc_faults.DocField.TheVariants as fields
use Rattle.event_json.specs.declared.doc_faults.DocFaultKind.TheVariants as kinds
use Rattle.event_json.specs.declared.doc_faults.Flaw.{Flaw}
use Rattle.event_json.specs.declared.documents.Doc.{Doc}
use Rattle.event_json.specs.declared.event_types.EventType.{EventType}
use Rattle.event_json.specs.declared.event_types.EventType.TheVariants.{Object, Aggregation, Transaction, Transformation, Association}
use Rattle.event_json.specs.Checks.{event_type, without_declaration, without_quantities, head_of, instant_of, offset_checked, action_checked, action_of}
use Rattle.event_json.specs.Documents.{whole, numbered_event, events_of, document_of, text_document}
use Rattle.event_json.specs.EventReading.{parent_of, aggregation_event, object_event, made, transformation_event, kept, event_of_type, event_of}
use Rattle.event_json.specs.Events.{Content}
use Rattle.event_json.specs.ItemLists.{epcs_of, destinations_of}
use Rattle.event_json.specs.Members.{each, member_of, identifier_of, text_of}
use Rattle.event_json.specs.Sites.{Site}
use Rattle.event_json.proofs.Destinations.{after}
use Rattle.event_json.proofs.Listed.{same_ok, unnumbered, both_found, doc_found, read_of}
use Rattle.event_writing.specs.Instants.{ReadInstantsAreNamed}
use Rattle.event_writing.proofs.Timestamps.{instant_within}

abbrev IsNamed : Content → Type 0
IsNamed e = IsTimestampNanos e.instant

head_named : (d : Data) (h : Head) → head_of d ≡ Ok h → IsTimestampNanos h.instant
unfolding head_of
head_named d h is =
    let id = after (identifier_of fields.EventId (member_of fields.EventId d)) _ h is in
    let time = after (text_of fields.EventTime (member_of fields.EventTime d)) _ h id.2 in
    let at = after (instant_of time.0) _ h time.2 in
    let offset = after (text_of fields.EventTimeZoneOffset (member_of fields.EventTimeZoneOffset d)) _ h at.2 in
    let checked = after (offset_checked offset.0) _ h offset.2 in
    subst (λ (k : Head). IsTimestampNanos k.instant) (same_ok {E = Flaw} (record { id = id.0; instant = at.0 }) h checked.2) (instant_within time.0 at.0 at.1)

-- an event that is read has the instant of its head
of_head : (head : Head) (body : Body) (e : Content) → ◌≡◌ {A = Result Content Flaw} (Ok (record { id = head.id; instant = head.instant; body = body })) (Ok e)
    → IsTimestampNanos head.instant → IsNamed e
of_head head body e is named = subst IsNamed (same_ok {E = Flaw} (record { id = head.id; instant = head.instant; body = body }) e is) named

object_named : (sites : List Site) (d : Data) (e : Content) → object_event sites d ≡ Ok e → IsNamed e
unfolding object_event
object_named sites d e is =
    let declared = after (without_declaration d) _ e is in
    let counted = after (without_quantities fields.QuantityList d) _ e declared.2 in
    let head = after (head_of d) _ e counted.2 in
    let action = after (action_checked d) _ e head.2 in
    let items = after (epcs_of fields.EpcList d) _ e action.2 in
    let destinations = after (destinations_of d) _ e items.2 in
    of_head head.0 _ e destinations.2 (head_named d head.0 head.1)

transformation_named : (d : Data) (e : Content) → transformation_event d ≡ Ok e → IsNamed e
unfolding transformation_event
transformation_named d e is =
    let declared = after (without_declaration d) _ e is in
    let inputs = after (without_quantities fields.InputQuantityList d) _ e declared.2 in
    let outputs = after (without_quantities fields.OutputQuantityList d) _ e inputs.2 in
    let head = after (head_of d) _ e outputs.2 in
    let ins = after (epcs_of fields.InputEpcList d) _ e head.2 in
    let outs = after (epcs_of fields.OutputEpcList d) _ e ins.2 in
    let id = after (identifier_of fields.TransformationId (member_of fields.TransformationId d)) _ e outs.2 in
    let body = after (made id.0 ins.0 outs.0) _ e id.2 in
    of_head head.0 _ e body.2 (head_named d head.0 head.1)

aggregation_named : (d : Data) (e : Content) → aggregation_event d ≡ Ok e → IsNamed e
unfolding aggregation_event
aggregation_named d e is =
    let declared = after (without_declaration d) _ e is in
    let counted = after (without_quantities fields.ChildQuantityList d) _ e declared.2 in
    let head = after (head_of d) _ e counted.2 in
    let action = after (action_of d) _ e head.2 in
    let parent = after (parent_of action.0 d) _ e action.2 in
    let children = after (epcs_of fields.ChildEpcs d) _ e parent.2 in
    of_head head.0 _ e children.2 (head_named d head.0 head.1)

-- an event that isn't skipped
abbrev KeptNamed : Option Content → Type 0
KeptNamed None = ⊤
KeptNamed (Some e) = IsNamed e

kept_named : (found : Result Content Flaw) (o : Option Content) → ((e : Content) → found ≡ Ok e → IsNamed e) → kept found ≡ Ok o → KeptNamed o
kept_named (Ok e) o named is = subst KeptNamed (same_ok _ _ is) (named e refl)
kept_named (Err flaw) o named is = absurd (let no : ⊥ = cc in no)

of_type_named : (sites : List Site) (its_type : EventType) (d : Data) (o : Option Content) → event_of_type sites its_type d ≡ Ok o → KeptNamed o
unfolding event_of_type
of_type_named sites Object d o is = kept_named (object_event sites d) o (object_named sites d) is
of_type_named sites Transformation d o is = kept_named (transformation_event d) o (transformation_named d) is
of_type_named sites Aggregation d o is = kept_named (aggregation_event d) o (aggregation_named d) is
of_type_named sites Transaction d o is = subst KeptNamed (same_ok _ _ is) tt
of_type_named sites Association d o is = subst KeptNamed (same_ok _ _ is) tt

event_named : (sites : List Site) (d : Data) (o : Option Content) → event_of sites d ≡ Ok o → KeptNamed o
unfolding event_of
event_named sites d o is = let its_type = after (event_type d) _ o is in of_type_named sites its_type.0 d o its_type.2

more_named : (o : Option Content) (events : List Content) → KeptNamed o → All IsNamed events → All IsNamed (cons_option o events)
more_named None events here rest = rest
more_named (Some e) events here rest = All-cons IsNamed e events here rest

abbrev AllNamed : List (Option Content) → Type 0
AllNamed found = All IsNamed (filter_map (λ e. e) found)

each_named : (sites : List Site) (n : ℕ) (items : Items) (found : List (Option Content)) → each (numbered_event sites) n items ≡ Ok found → AllNamed found
each_named sites n no_items found is = subst AllNamed (same_ok _ _ is) (All-nil IsNamed)
each_named sites n (item d ds) found is =
    let parts = both_found _ _ found is in
    subst AllNamed (sym parts.4)
    (more_named parts.0 (filter_map (λ e. e) parts.1) (event_named sites d parts.0 (unnumbered n _ _ parts.2)) (each_named sites (n + 1) ds parts.1 parts.3))

events_named : (sites : List Site) (items : Items) (doc : Doc) → events_of sites items ≡ Ok doc → All IsNamed doc.events
unfolding events_of
events_named sites items doc is =
    let from = doc_found _ doc is in
    subst (λ (d : Doc). All IsNamed d.events) from.2 (each_named sites 1 items from.0 from.1)

document_named : (sites : List Site) (d : Data) (doc : Doc) → document_of sites d ≡ Ok doc → All IsNamed doc.events
document_named sites d doc is = let list = read_of sites d doc is in events_named sites list.0 doc list.3

pub instants_named : ReadInstantsAreNamed
unfolding text_document
instants_named sites text doc is =
    by (read text) refl
  where
    by : (o : Option Data) → read text ≡ o → All IsNamed doc.events
    by None none = absurd (let failed : text_document sites text ≡ Err (whole fields.Document kinds.Syntax) = rw none refl in let no : ⊥ = cc in no)
    by (Some d) some = let same : text_document sites text ≡ document_of sites d = rw some refl in document_named sites d doc (sym same ∙ is)
