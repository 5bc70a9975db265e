-- A document of a packing is read as this packing.
use Rattle.std.proofs.Common.{◌≡◌, ◌≤◌, ℕ, suc, ◌+◌, false, List, [], ◌∷◌, length, codes, map, Option, Some, None, Ok, refl, sym, ap, ◌∙◌, subst, arith}
use Rattle.std.proofs.lemmas.Bool.{le-ltb}
use Rattle.std.proofs.lemmas.List.Elements.{length_all_zip}
use Rattle.std.specs.Prelude.{nat_lt}
use Rattle.serde_json.specs.Data.{Data, depth, items_depth, item, no_items, string}
use Rattle.serde_json.specs.Read.{max_depth, read}
use Rattle.serde_json.specs.View.{items_of}
use Rattle.epc_core.specs.Spellings.{IsPlain, Spells}
use Rattle.epc_core.proofs.Told.{reading_to}
use Rattle.event_json.specs.declared.bodies.Action.TheVariants.{Add}
use Rattle.event_json.specs.declared.bodies.Body.{Body}
use Rattle.event_json.specs.declared.bodies.Body.TheVariants.{Pack}
use Rattle.event_json.specs.declared.doc_faults.DocField.{DocField}
use Rattle.event_json.specs.declared.doc_faults.DocField.TheVariants as fields
use Rattle.event_json.specs.declared.event_types.EventType.TheVariants.{Aggregation}
use Rattle.event_json.specs.Checks.{action_named, action_of, event_type, head_of, instant_of, is_offset, offset_checked, type_named, without_declaration, without_quantities}
use Rattle.event_json.specs.Documents.{document_of, event_list, events_of, few_events, listed, text_document}
use Rattle.event_json.specs.EventReading.{aggregation_event, event_of, event_of_type, parent_of}
use Rattle.event_json.specs.Events.{Content, IsBody, IsIdentifier}
use Rattle.event_json.specs.ItemLists.{epc_of, epcs_of, limit_checked}
use Rattle.event_json.specs.Members.{count_of, each, identifier_of}
use Rattle.event_json.specs.Sites.{Site}
use Rattle.event_json.proofs.Plain.{plain_decides}
use Rattle.event_writing.specs.Packings.{AreSpellings, IsDocumentOf, IsPackingText, IsReadAs, PackingsAreRead, doc_of_one, document_value, event_value}

-- ---- items

item_read : (field : DocField) (key text : List ℕ) → Spells text key → epc_of field (string text) ≡ Ok key
unfolding epc_of
item_read field key text s = rw (reading_to text key s) refl

children_read : (n : ℕ) (keys texts : List (List ℕ)) → AreSpellings keys texts → each (λ _. epc_of fields.ChildEpcs) n (items_of (map string texts)) ≡ Ok keys
children_read n [] [] are = refl
children_read n [] (t ∷ ts) are = absurd are
children_read n (k ∷ ks) [] are = absurd are
children_read n (k ∷ ks) (t ∷ ts) are = rw (item_read fields.ChildEpcs k t are.0, children_read (n + 1) ks ts are.1) refl

texts_counted : (texts : List (List ℕ)) → count_of (items_of (map string texts)) ≡ length texts
texts_counted [] = refl
texts_counted (t ∷ ts) = ap suc (texts_counted ts)

few_texts : (keys texts : List (List ℕ)) → AreSpellings keys texts → length keys ≤ 1000 → nat_lt 1000 (count_of (items_of (map string texts))) ≡ false
few_texts keys texts are few =
    let same = length_all_zip (λ key text. Spells text key) keys texts are in
    let counted = texts_counted texts in
    le-ltb 1000 (count_of (items_of (map string texts))) (omega (arith, same, counted, few))

items_read : (id : Option (List ℕ)) (time parent : List ℕ) (keys texts : List (List ℕ)) → AreSpellings keys texts → length keys ≤ 1000
    → epcs_of fields.ChildEpcs (event_value id time parent texts) ≡ Ok keys
unfolding epcs_of limit_checked
items_read None time parent keys texts are few = rw (few_texts keys texts are few, children_read 1 keys texts are) refl
items_read (Some id) time parent keys texts are few = rw (few_texts keys texts are few, children_read 1 keys texts are) refl

-- ---- the other members

parent_read : (id : Option (List ℕ)) (time parent key : List ℕ) (texts : List (List ℕ)) → Spells parent key → parent_of Add (event_value id time parent texts) ≡ Ok (Some key)
unfolding parent_of
parent_read None time parent key texts s = rw (item_read fields.ParentId key parent s) refl
parent_read (Some id) time parent key texts s = rw (item_read fields.ParentId key parent s) refl

offset_read : offset_checked (codes "+00:00") ≡ Ok tt
unfolding offset_checked is_offset
offset_read = refl

id_read : (id : List ℕ) → IsPlain id → identifier_of fields.EventId (Some (string id)) ≡ Ok (Some id)
id_read id plain = rw ((plain_decides id).1 plain) refl

head_read : (id : Option (List ℕ)) (time parent : List ℕ) (texts : List (List ℕ)) (e : Content) → e.id ≡ id → IsIdentifier id → instant_of time ≡ Ok e.instant
    → head_of (event_value id time parent texts) ≡ Ok (record { id = id; instant = e.instant })
unfolding head_of
head_read None time parent texts e same plain at = rw (at, offset_read) refl
head_read (Some id) time parent texts e same plain at = rw (id_read id plain, at, offset_read) refl

no_declaration : (id : Option (List ℕ)) (time parent : List ℕ) (texts : List (List ℕ)) → without_declaration (event_value id time parent texts) ≡ Ok tt
unfolding without_declaration
no_declaration None time parent texts = refl
no_declaration (Some id) time parent texts = refl

no_quantities : (id : Option (List ℕ)) (time parent : List ℕ) (texts : List (List ℕ)) → without_quantities fields.ChildQuantityList (event_value id time parent texts) ≡ Ok tt
unfolding without_quantities
no_quantities None time parent texts = refl
no_quantities (Some id) time parent texts = refl

action_read : (id : Option (List ℕ)) (time parent : List ℕ) (texts : List (List ℕ)) → action_of (event_value id time parent texts) ≡ Ok Add
unfolding action_of action_named
action_read None time parent texts = refl
action_read (Some id) time parent texts = refl

type_read : (id : Option (List ℕ)) (time parent : List ℕ) (texts : List (List ℕ)) → event_type (event_value id time parent texts) ≡ Ok Aggregation
unfolding event_type type_named
type_read None time parent texts = refl
type_read (Some id) time parent texts = refl

-- ---- the event and its document

event_read : (sites : List Site) (e : Content) (parent : List ℕ) (keys : List (List ℕ)) (time named : List ℕ) (texts : List (List ℕ))
    → e.body ≡ Pack Add (Some parent) keys → IsIdentifier e.id → length keys ≤ 1000 → instant_of time ≡ Ok e.instant → Spells named parent → AreSpellings keys texts
    → event_of sites (event_value e.id time named texts) ≡ Ok (Some e)
unfolding event_of event_of_type aggregation_event
event_read sites e parent keys time named texts body plain few at s are =
    rw (
      type_read e.id time named texts,
      no_declaration e.id time named texts,
      no_quantities e.id time named texts,
      head_read e.id time named texts e refl plain at,
      action_read e.id time named texts,
      parent_read e.id time named parent texts s,
      items_read e.id time named keys texts are few,
    )
    (ap (λ b. Ok (Some (record { id = e.id; instant = e.instant; body = b }))) (sym body))

one_listed : (time : List ℕ) (event : Data) → event_list (document_value time event) ≡ Ok (item event no_items)
unfolding event_list listed
one_listed time event = refl

document_read : (sites : List Site) (time : List ℕ) (event : Data) (e : Content) → event_of sites event ≡ Ok (Some e) → document_of sites (document_value time event) ≡ Ok (doc_of_one e)
unfolding document_of few_events events_of
document_read sites time event e is = rw (one_listed time event, is) refl

few_children : (e : Content) (parent : List ℕ) (keys : List (List ℕ)) → e.body ≡ Pack Add (Some parent) keys → IsBody e.body → length keys ≤ 1000
few_children e parent keys is within = (subst IsBody is within).0

pub packings_are_read : PackingsAreRead
packings_are_read e d plain within document sites =
    let packing = document.packing in
    let value = document.value in
    subst (λ v. document_of sites v ≡ Ok (doc_of_one e)) (sym value.is)
    (document_read sites document.time (event_value e.id document.time value.named value.texts) e
    (event_read sites e packing.parent packing.children document.time value.named value.texts packing.is plain
    (few_children e packing.parent packing.children packing.is within) document.instant value.parent_named value.children_named))

-- ---- the text

texts_flat : (texts : List (List ℕ)) → items_depth (items_of (map string texts)) ≡ 0
texts_flat [] = refl
texts_flat (t ∷ ts) = rw (texts_flat ts) refl

shallow : (id : Option (List ℕ)) (time parent : List ℕ) (texts : List (List ℕ)) → depth (document_value time (event_value id time parent texts)) ≤ max_depth
shallow None time parent texts = rw (texts_flat texts) (omega arith)
shallow (Some id) time parent texts = rw (texts_flat texts) (omega arith)

document_shallow : (id : Option (List ℕ)) (time parent : List ℕ) (children : List (List ℕ)) (d : Data) → IsDocumentOf id time parent children d → depth d ≤ max_depth
document_shallow id time parent children d value = subst (λ v. depth v ≤ max_depth) (sym value.is) (shallow id time value.named value.texts)

-- the text of a value that was made of an event's parts
pub text_told : (e : Content) (body : Body) (id : Option (List ℕ)) (time parent : List ℕ) (children : List (List ℕ)) (d : Data)
    (text : List ℕ)
    → body ≡ e.body → body ≡ Pack Add (Some parent) children → id ≡ e.id → instant_of time ≡ Ok e.instant → IsDocumentOf id time parent children d
    → (depth d ≤ max_depth → read text ≡ Some d) → IsPackingText e text
text_told e body id time parent children d text same packs named tells value reads = (
  d,
  reads (document_shallow id time parent children d value),
  record {
    packing = record { parent = parent; children = children; is = sym same ∙ packs };
    time = time;
    instant = tells;
    value = subst (λ i. IsDocumentOf i time parent children d) named value;
  },
)

-- such a text is read as the event
pub text_read : (e : Content) (text : List ℕ) → IsIdentifier e.id → IsBody e.body → IsPackingText e text → IsReadAs e text
unfolding text_document
text_read e text plain within (d, is, document) sites = rw is (packings_are_read e d plain within document sites)
