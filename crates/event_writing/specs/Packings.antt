-- A packing as a document that is read as this event alone: an AggregationEvent of action ADD (GS1 EPCIS 2.0, section
-- 7.4.3) in an EPCISDocument in its JSON form.
use Rattle.std.specs.Prelude.{◌≡◌, ℕ, List, [], ◌∷◌, codes, map, Option, Some, None, Ok}
use Rattle.std.specs.List.{AllZip}
use Rattle.jiff.specs.Words.{IsTimestampNanos}
use Rattle.serde_json.specs.Data.{Data, string, array, object, no_items, item, Members, member, no_members}
use Rattle.serde_json.specs.Read.{read}
use Rattle.serde_json.specs.View.{items_of}
use Rattle.epc_core.specs.Spellings.{Spells}
use Rattle.event_json.specs.declared.bodies.Action.TheVariants.{Add}
use Rattle.event_json.specs.declared.bodies.Body.{Body}
use Rattle.event_json.specs.declared.bodies.Body.TheVariants.{Pack}
use Rattle.event_json.specs.declared.documents.Doc.{Doc}
use Rattle.event_json.specs.Checks.{instant_of}
use Rattle.event_json.specs.Documents.{document_of, text_document}
use Rattle.event_json.specs.Events.{Content, IsIdentifier, IsBody}
use Rattle.event_json.specs.Sites.{Site}

-- ---- the value

-- a text under a name, and the members behind it
abbrev pub text_at : List ℕ → List ℕ → Members → Members
text_at name text rest = member name (string text) rest

-- the eventID, where there is one
abbrev pub with_id : Option (List ℕ) → Members → Members
with_id None rest = rest
with_id (Some id) rest = text_at (codes "eventID") id rest

-- the AggregationEvent of this eventID and time, in UTC, of texts for the parent and the children; names are in order
abbrev pub event_value : Option (List ℕ) → List ℕ → List ℕ → List (List ℕ) → Data
event_value id time parent children =
    object (text_at (codes "action") (codes "ADD") (member (codes "childEPCs") (array (items_of (map string children)))
    (with_id id (text_at (codes "eventTime") time (text_at (codes "eventTimeZoneOffset") (codes "+00:00")
    (text_at (codes "parentID") parent (text_at (codes "type") (codes "AggregationEvent") no_members)))))))

-- an array of one value
abbrev pub only : Data → Data
only d = array (item d no_items)

-- the EPCISDocument of one event, as if it was created at this time
abbrev pub document_value : List ℕ → Data → Data
document_value time event =
    object (member (codes "@context") (only (string (codes "https://ref.gs1.org/standards/epcis/2.0.0/epcis-context.jsonld")))
    (text_at (codes "creationDate") time (member (codes "epcisBody") (object (member (codes "eventList") (only event) no_members))
    (text_at (codes "schemaVersion") (codes "2.0") (text_at (codes "type") (codes "EPCISDocument") no_members)))))

-- ---- what it says

-- texts of these items, each at the place of its item
abbrev pub AreSpellings : List (List ℕ) → List (List ℕ) → Type 0
AreSpellings items texts = AllZip (λ key text. Spells text key) items texts

-- the document of a packing of these: its items are named by any texts that spell them
pub record IsDocumentOf (id : Option (List ℕ)) (time parent : List ℕ) (children : List (List ℕ)) (d : Data) : Type 0 where
  pub named : List ℕ
  pub texts : List (List ℕ)
  pub parent_named : Spells named parent
  pub children_named : AreSpellings children texts
  pub is : d ≡ document_value time (event_value id time named texts)

-- what is put into something
pub record IsPacking (body : Body) : Type 0 where
  pub parent : List ℕ
  pub children : List (List ℕ)
  pub is : body ≡ Pack Add (Some parent) children

-- a document of this event: it is a packing, and the time names its instant
pub record IsPackingDocument (e : Content) (d : Data) : Type 0 where
  pub packing : IsPacking e.body
  pub time : List ℕ
  pub instant : instant_of time ≡ Ok e.instant
  pub value : IsDocumentOf e.id time packing.parent packing.children d

-- the text is that of such a document
abbrev pub IsPackingText : Content → List ℕ → Type 0
IsPackingText e text = (d : Data) × (read text ≡ Some d) × IsPackingDocument e d

-- an event that can't be written so: it is no packing, or no time names its instant
abbrev pub IsNotWritten : Content → Type 0
IsNotWritten e = IsPacking e.body → ¬ IsTimestampNanos e.instant

-- ---- how it is read

-- what is read is this event and nothing else
abbrev pub doc_of_one : Content → Doc
doc_of_one e = record { events = e ∷ []; skipped = 0 }

-- whatever sites are listed, the text is read as this event alone
abbrev pub IsReadAs : Content → List ℕ → Type 0
IsReadAs e text = (sites : List Site) → text_document sites text ≡ Ok (doc_of_one e)

-- a document of a packing is read as this packing alone
abbrev pub PackingsAreRead : Type 0
PackingsAreRead = (e : Content) (d : Data) → IsIdentifier e.id → IsBody e.body → IsPackingDocument e d
    → (sites : List Site) → document_of sites d ≡ Ok (doc_of_one e)
