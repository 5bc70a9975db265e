-- What the events of a document ship goes to sites of the list.
use Rattle.std.proofs.Common.{◌≡◌, ℕ, ◌+◌, ◌<◌, Bool, true, false, cond, List, [], ◌∷◌, length, Option, Some, None, Result, Ok, Err, refl, sym, ◌∙◌, subst, All}
use Rattle.std.specs.Prelude.{⊤, filter_map, filter, is_none, ◌==◌, ◌&&◌, ◌||◌, bytes_eq}
use Rattle.std.specs.List.{cons_option, list_any}
use Rattle.std.proofs.lemmas.List.Elements.{All-nil, All-cons}
use Rattle.std.proofs.lemmas.List.Quantifiers.{position-Some}
use Rattle.serde_json.specs.Data.{Data, Items, no_items, item}
use Rattle.serde_json.specs.Read.{read}
use Rattle.event_json.specs.declared.bodies.Body.{Body}
use Rattle.event_json.specs.declared.bodies.Body.TheVariants.{Note, Ship, Make, Pack}
use Rattle.event_json.specs.declared.checks.Head.{Head}
use Rattle.event_json.specs.declared.doc_faults.DocField.TheVariants as fields
use Rattle.event_json.specs.declared.doc_faults.DocFaultKind.TheVariants as kinds
use Rattle.event_json.specs.declared.doc_faults.Flaw.{Flaw}
use Rattle.event_json.specs.declared.documents.Doc.{Doc}
use Rattle.event_json.specs.declared.event_types.EventType.{EventType}
use Rattle.event_json.specs.declared.event_types.EventType.TheVariants.{Object, Aggregation, Transaction, Transformation, Association}
use Rattle.event_json.specs.Checks.{event_type, without_declaration, without_quantities, head_of, action_checked, action_of}
use Rattle.event_json.specs.Documents.{whole, numbered_event, events_of, document_of, text_document}
use Rattle.event_json.specs.EventReading.{parent_of, aggregation_event, shipment, object_event, made, transformation_event, kept, event_of_type, event_of}
use Rattle.event_json.specs.Events.{Content}
use Rattle.event_json.specs.Faults.{◌>>=◌}
use Rattle.event_json.specs.ItemLists.{epcs_of, destinations_of}
use Rattle.event_json.specs.Laws.{ShipsToSites}
use Rattle.event_json.specs.Members.{each, member_of, identifier_of}
use Rattle.event_json.specs.Sites.{Site, addressed, ShipsAmong}
use Rattle.event_json.proofs.Listed.{same_ok, unnumbered, both_found, doc_found, read_of}

-- a site that is found is of the list
addressed_within : (sites : List Site) (text : List ℕ) (site : ℕ) → addressed sites text ≡ Some site → site < length sites
unfolding addressed
addressed_within sites text site is = (position-Some (λ s. list_any (λ a. bytes_eq a text) s.addresses) sites site (record { name = []; addresses = [] }) is).0

all_within : (sites : List Site) (texts : List (List ℕ)) → All (λ t. t < length sites) (filter_map (addressed sites) texts)
all_within sites [] = All-nil (λ t. t < length sites)
all_within sites (text ∷ texts) =
    by (addressed sites text) refl (all_within sites texts)
  where
    by : (o : Option ℕ) → addressed sites text ≡ o → All (λ t. t < length sites) (filter_map (addressed sites) texts) → All (λ t. t < length sites) (cons_option o (filter_map (addressed sites) texts))
    by None is rest = rest
    by (Some site) is rest = All-cons (λ t. t < length sites) site (filter_map (addressed sites) texts) (addressed_within sites text site is) rest

shipment_among : (sites : List Site) (items destinations : List (List ℕ)) → ShipsAmong (length sites) (shipment sites items destinations)
shipment_among sites items destinations =
    by (length destinations == 0)
  where
    to : List ℕ
    to = filter_map (addressed sites) destinations

    outside : List (List ℕ)
    outside = filter (λ t. is_none (addressed sites t)) destinations

    by : (b : Bool) → ShipsAmong (length sites) (cond b (Note items) (Ship items to outside))
    by true = tt
    by false = all_within sites destinations

-- what was found before it, where a step was made
pub after : {A B E : Type 0} (first : Result A E) (rest : A → Result B E) (y : B) → (first >>= rest) ≡ Ok y → (x : A) × (first ≡ Ok x) × (rest x ≡ Ok y)
after (Ok x) rest y is = (x, refl, is)
after (Err e) rest y is = absurd (let no : ⊥ = cc in no)

-- the event that is read has this body
body_among : (sites : ℕ) (head : Head) (body : Body) (e : Content) → ◌≡◌ {A = Result Content Flaw} (Ok (record { id = head.id; instant = head.instant; body = body })) (Ok e) → ShipsAmong sites body → ShipsAmong sites e.body
body_among sites head body e is among = subst (λ (c : Content). ShipsAmong sites c.body) (same_ok {E = Flaw} (record { id = head.id; instant = head.instant; body = body }) e is) among

object_among : (sites : List Site) (d : Data) (e : Content) → object_event sites d ≡ Ok e → ShipsAmong (length sites) e.body
unfolding object_event
object_among sites d e is =
    let declared = after (without_declaration d) _ e is in
    let counted = after (without_quantities fields.QuantityList d) _ e declared.2 in
    let head = after (head_of d) _ e counted.2 in
    let action = after (action_checked d) _ e head.2 in
    let items = after (epcs_of fields.EpcList d) _ e action.2 in
    let destinations = after (destinations_of d) _ e items.2 in
    body_among (length sites) head.0 (shipment sites items.0 destinations.0) e destinations.2 (shipment_among sites items.0 destinations.0)

made_among : (sites : ℕ) (id : Option (List ℕ)) (ins outs : List (List ℕ)) (body : Body) → made id ins outs ≡ Ok body → ShipsAmong sites body
made_among sites id ins outs body =
    by (is_none id && ((length ins == 0) || (length outs == 0)))
  where
    half : Result Body Flaw
    half = Err (record { field = fields.TransformationId; kind = kinds.HalfTransformation })

    by : (b : Bool) → cond b half (Ok (Make id ins outs)) ≡ Ok body → ShipsAmong sites body
    by true is = absurd (let no : ⊥ = cc in no)
    by false is = subst (ShipsAmong sites) (same_ok _ _ is) tt

transformation_among : (sites : ℕ) (d : Data) (e : Content) → transformation_event d ≡ Ok e → ShipsAmong sites e.body
unfolding transformation_event
transformation_among sites d e is =
    let declared = after (without_declaration d) _ e is in
    let inputs = after (without_quantities fields.InputQuantityList d) _ e declared.2 in
    let outputs = after (without_quantities fields.OutputQuantityList d) _ e inputs.2 in
    let head = after (head_of d) _ e outputs.2 in
    let ins = after (epcs_of fields.InputEpcList d) _ e head.2 in
    let outs = after (epcs_of fields.OutputEpcList d) _ e ins.2 in
    let id = after (identifier_of fields.TransformationId (member_of fields.TransformationId d)) _ e outs.2 in
    let body = after (made id.0 ins.0 outs.0) _ e id.2 in
    body_among sites head.0 body.0 e body.2 (made_among sites id.0 ins.0 outs.0 body.0 body.1)

aggregation_among : (sites : ℕ) (d : Data) (e : Content) → aggregation_event d ≡ Ok e → ShipsAmong sites e.body
unfolding aggregation_event
aggregation_among sites d e is =
    let declared = after (without_declaration d) _ e is in
    let counted = after (without_quantities fields.ChildQuantityList d) _ e declared.2 in
    let head = after (head_of d) _ e counted.2 in
    let action = after (action_of d) _ e head.2 in
    let parent = after (parent_of action.0 d) _ e action.2 in
    let children = after (epcs_of fields.ChildEpcs d) _ e parent.2 in
    body_among sites head.0 (Pack action.0 parent.0 children.0) e children.2 tt

-- an event that isn't skipped
abbrev KeptAmong : ℕ → Option Content → Type 0
KeptAmong sites None = ⊤
KeptAmong sites (Some e) = ShipsAmong sites e.body

kept_among : (sites : ℕ) (found : Result Content Flaw) (o : Option Content) → ((e : Content) → found ≡ Ok e → ShipsAmong sites e.body) → kept found ≡ Ok o → KeptAmong sites o
kept_among sites (Ok e) o among is = subst (KeptAmong sites) (same_ok _ _ is) (among e refl)
kept_among sites (Err flaw) o among is = absurd (let no : ⊥ = cc in no)

of_type_among : (sites : List Site) (its_type : EventType) (d : Data) (o : Option Content) → event_of_type sites its_type d ≡ Ok o → KeptAmong (length sites) o
unfolding event_of_type
of_type_among sites Object d o is = kept_among (length sites) (object_event sites d) o (object_among sites d) is
of_type_among sites Transformation d o is = kept_among (length sites) (transformation_event d) o (transformation_among (length sites) d) is
of_type_among sites Aggregation d o is = kept_among (length sites) (aggregation_event d) o (aggregation_among (length sites) d) is
of_type_among sites Transaction d o is = subst (KeptAmong (length sites)) (same_ok _ _ is) tt
of_type_among sites Association d o is = subst (KeptAmong (length sites)) (same_ok _ _ is) tt

event_among : (sites : List Site) (d : Data) (o : Option Content) → event_of sites d ≡ Ok o → KeptAmong (length sites) o
unfolding event_of
event_among sites d o is = let its_type = after (event_type d) _ o is in of_type_among sites its_type.0 d o its_type.2

abbrev AllAmong : ℕ → List Content → Type 0
AllAmong sites events = All (λ e. ShipsAmong sites e.body) events

more_among : (sites : ℕ) (o : Option Content) (events : List Content) → KeptAmong sites o → AllAmong sites events → AllAmong sites (cons_option o events)
more_among sites None events here rest = rest
more_among sites (Some e) events here rest = All-cons (λ (f : Content). ShipsAmong sites f.body) e events here rest

each_among : (sites : List Site) (n : ℕ) (items : Items) (found : List (Option Content)) → each (numbered_event sites) n items ≡ Ok found → AllAmong (length sites) (filter_map (λ e. e) found)
each_among sites n no_items found is = subst (λ (f : List (Option Content)). AllAmong (length sites) (filter_map (λ e. e) f)) (same_ok _ _ is) (All-nil (λ (e : Content). ShipsAmong (length sites) e.body))
each_among sites n (item d ds) found is =
    let parts = both_found _ _ found is in
    subst (λ (f : List (Option Content)). AllAmong (length sites) (filter_map (λ e. e) f)) (sym parts.4)
    (more_among (length sites) parts.0 (filter_map (λ e. e) parts.1) (event_among sites d parts.0 (unnumbered n _ _ parts.2)) (each_among sites (n + 1) ds parts.1 parts.3))

events_among : (sites : List Site) (items : Items) (doc : Doc) → events_of sites items ≡ Ok doc → ShipsToSites sites doc
unfolding events_of
events_among sites items doc is =
    let from = doc_found _ doc is in
    subst (λ (d : Doc). AllAmong (length sites) d.events) from.2 (each_among sites 1 items from.0 from.1)

pub document_ships : (sites : List Site) (d : Data) (doc : Doc) → document_of sites d ≡ Ok doc → ShipsToSites sites doc
document_ships sites d doc is = let list = read_of sites d doc is in events_among sites list.0 doc list.3

pub text_ships : (sites : List Site) (text : List ℕ) (doc : Doc) → text_document sites text ≡ Ok doc → ShipsToSites sites doc
unfolding text_document
text_ships sites text doc is =
    by (read text) refl
  where
    by : (o : Option Data) → read text ≡ o → ShipsToSites sites doc
    by None none = absurd (let failed : text_document sites text ≡ Err (whole fields.Document kinds.Syntax) = rw none refl in let no : ⊥ = cc in no)
    by (Some d) some = let same : text_document sites text ≡ document_of sites d = rw some refl in document_ships sites d doc (sym same ∙ is)
