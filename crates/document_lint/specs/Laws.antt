-- What a linter finds, in the words of the one who captures documents.
use Rattle.std.specs.Prelude.{◌≡◌, ◌≢◌, ◌⊎◌, ◌↔◌, ◌&&◌, ℕ, All, List, [], ◌∷◌, ◌++◌, codes, take, Option, Some, None, Result, Ok, Err, IsOk, IsSome, IsTrue, if◌then◌else◌, is_none, sum_by}
use Rattle.std.specs.List.{AllZip, Contains, flat_map}
use Rattle.epc_core.specs.Items.{key_of, number_key_of}
use Rattle.epc_core.specs.Numbers.{are_parts}
use Rattle.serde_json.specs.Data.{Data, item, no_items}
use Rattle.event_json.specs.Checks.{action_of, event_type}
use Rattle.event_json.specs.Documents.{events_of, text_document}
use Rattle.event_json.specs.EventReading.{event_of}
use Rattle.event_json.specs.ItemLists.{epcs_of}
use Rattle.event_json.specs.Laws.{HaveSame, order_of}
use Rattle.event_json.specs.Members.{identifier_of, member_of}
use Rattle.event_json.specs.Names.{field_name}
use Rattle.event_json.specs.Sites.{Site}
use Rattle.event_json.specs.declared.bodies.Action.TheVariants.{Add}
use Rattle.event_json.specs.declared.doc_faults.DocFault.{DocFault}
use Rattle.event_json.specs.declared.doc_faults.DocFaultKind.{DocFaultKind}
use Rattle.event_json.specs.declared.doc_faults.DocFaultKind.TheVariants as kinds
use Rattle.event_json.specs.declared.doc_faults.DocField.{DocField}
use Rattle.event_json.specs.declared.doc_faults.DocField.TheVariants as fields
use Rattle.event_json.specs.declared.doc_faults.Flaw.{Flaw}
use Rattle.event_json.specs.declared.event_types.EventType.{EventType}
use Rattle.event_json.specs.declared.event_types.EventType.TheVariants.{Aggregation, Transformation}
use Rattle.event_json.specs.declared.documents.Doc.{Doc}
use Rattle.document_lint.specs.EventFaults.{event_faults}
use Rattle.document_lint.specs.Findings.{text_lint}
use Rattle.document_lint.specs.Locations.{is_gln, location_of}
use Rattle.document_lint.specs.NearMisses.{is_number_like, near_text}
use Rattle.document_lint.specs.Splitting.{AreEventsOf, IsAlone}
use Rattle.document_lint.specs.declared.findings.Finding.{Finding}
use Rattle.document_lint.specs.declared.findings.What.{What}
use Rattle.document_lint.specs.declared.findings.What.TheVariants.{Fault}

-- ---- what a capture is refused for

-- the fault that this is, or else what is behind it
abbrev pub fault_or : ℕ → What → Option DocFault → Option DocFault
fault_or event (Fault field kind) behind = Some (record { event = event; field = field; kind = kind })
fault_or event other behind = behind

-- the first fault of what is found
abbrev pub first_fault : List Finding → Option DocFault
first_fault [] = None
first_fault (found ∷ rest) = fault_or found.event found.what (first_fault rest)

-- what a reading is refused for
abbrev pub refused_for : Result Doc DocFault → Option DocFault
refused_for (Ok doc) = None
refused_for (Err fault) = Some fault

-- A document is refused for the first fault that is found in it, and read where none is found.
abbrev pub FirstFaultRefuses : Type 0
FirstFaultRefuses =
    (sites : List Site) (here : Option ℕ) (text : List ℕ) → first_fault (text_lint sites here text).findings ≡ refused_for (text_document sites text)

-- ---- the faults of an event

-- this fault of the event is told
abbrev pub IsTold : Data → Flaw → Type 0
IsTold d flaw = Contains (event_faults d) (Fault flaw.field flaw.kind)

-- the other members of which a fault comes: a parent is missing by the action, and a half by both lists
abbrev pub others_of : DocField → DocFaultKind → List (List ℕ)
others_of fields.ParentId kinds.Missing = codes "action" ∷ []
others_of fields.TransformationId kinds.HalfTransformation = codes "inputEPCList" ∷ codes "outputEPCList" ∷ []
others_of field kind = []

-- events of one type that have the same members for such a fault
pub record AreAlikeFor (flaw : Flaw) (d e : Data) : Type 0 where
  pub typed : event_type d ≡ event_type e
  pub same : HaveSame (field_name flaw.field ∷ others_of flaw.field flaw.kind) d e

-- Each fault of an event stands for itself, and all are told. Who mends other members of the event and leaves this one isn't read: what is
-- told has to be mended. And what a capture would refuse the event for, once others are mended, is told.
pub record FaultsStandAlone : Type 0 where
  pub refuses : (sites : List Site) (d e : Data) (flaw : Flaw) → AreAlikeFor flaw d e → IsTold d flaw → ¬ IsOk (event_of sites e)
  pub told : (sites : List Site) (d e : Data) (flaw : Flaw) → AreAlikeFor flaw d e → event_of sites e ≡ Err flaw → IsTold d flaw

-- faults of these members, of each at most one, in their order
abbrev pub AreFaultsOf : List (List ℕ) → List What → Type 0
AreFaultsOf [] found = found ≡ []
AreFaultsOf (name ∷ names) found =
    AreFaultsOf names found
    ⊎ ((field : DocField) × (kind : DocFaultKind) × (rest : List What) × (name ≡ field_name field) × (found ≡ Fault field kind ∷ rest) × AreFaultsOf names rest)

-- The faults of an event are of the members of its type, in the order of a capture's checks; one without a type has that fault alone.
abbrev pub MembersAreTold : Type 0
MembersAreTold = (d : Data)
    → ((its_type : EventType) → event_type d ≡ Ok its_type → AreFaultsOf (order_of its_type) (event_faults d))
    × ((flaw : Flaw) → event_type d ≡ Err flaw → event_faults d ≡ Fault flaw.field flaw.kind ∷ [])

-- Without an id a half is told to be missing exactly where one of the lists is read and empty; a parent, where it is absent and the action
-- is known to be ADD. What a faulty member leaves open is no fault of another.
pub record LacksAreTold : Type 0 where
  pub half :
      (d : Data) → event_type d ≡ Ok Transformation
      → IsTold d (record { field = fields.TransformationId; kind = kinds.HalfTransformation })
      ↔ ((identifier_of fields.TransformationId (member_of fields.TransformationId d) ≡ Ok None)
      × ((epcs_of fields.InputEpcList d ≡ Ok []) ⊎ (epcs_of fields.OutputEpcList d ≡ Ok [])))
  pub parent :
      (d : Data) → event_type d ≡ Ok Aggregation
      → IsTold d (record { field = fields.ParentId; kind = kinds.Missing }) ↔ ((action_of d ≡ Ok Add) × (member_of fields.ParentId d ≡ None))

-- ---- items and locations

-- The item of a text is a near miss where the text begins as one of an SGTIN or an SSCC and spells none.
abbrev pub NearMissesSpellNone : Type 0
NearMissesSpellNone =
    (text : List ℕ) → near_text (key_of text) ≡ (if is_none (number_key_of text) && is_number_like text then Some text else None)

-- Each text that spells one begins so.
abbrev pub SpellingsBeginSo : Type 0
SpellingsBeginSo = (text : List ℕ) → IsSome (number_key_of text) → IsTrue (is_number_like text)

-- a text without a slash
abbrev pub HasNoSlash : List ℕ → Type 0
HasNoSlash text = All (λ b. b ≢ 47) text

-- An EPC URI, whatever its extension, a GLN, and a Digital Link of it on any host, with an extension or without, name the location of
-- that GLN.
pub record LocationsAreSpelled : Type 0 where
  pub by_uri :
      (company reference extension : List ℕ) → IsTrue (are_parts 12 company reference)
      → location_of (codes "urn:epc:id:sgln:" ++ (company ++ (codes "." ++ (reference ++ (codes "." ++ extension))))) ≡ Some (company ++ reference)
  pub by_gln : (gln : List ℕ) → IsTrue (is_gln gln) → location_of gln ≡ Some (take 12 gln)
  pub by_link :
      (host gln : List ℕ) → HasNoSlash host → IsTrue (is_gln gln) → location_of (codes "https://" ++ (host ++ (codes "/414/" ++ gln))) ≡ Some (take 12 gln)
  pub by_extended_link :
      (host gln extension : List ℕ) → HasNoSlash host → IsTrue (is_gln gln)
      → location_of (codes "https://" ++ (host ++ (codes "/414/" ++ (gln ++ (codes "/254/" ++ extension))))) ≡ Some (take 12 gln)

-- ---- documents of single events

-- A document of an event alone is read as the event is, or refused for its fault, as that of the first event.
abbrev pub AloneIsRead : Type 0
AloneIsRead = (sites : List Site) (event : Data) (bytes : List ℕ) → IsAlone event bytes → text_document sites bytes ≡ events_of sites (item event no_items)

-- what these documents say, put together
abbrev pub together : List Doc → Doc
together docs = record { events = flat_map (λ doc. doc.events) docs; skipped = sum_by (λ doc. doc.skipped) docs }

-- A document that is read says what the documents of its single events say, put together.
abbrev pub EventsMakeTheDocument : Type 0
EventsMakeTheDocument =
    (sites : List Site) (bytes : List ℕ) (documents : List (List ℕ)) (doc : Doc) → AreEventsOf bytes documents → text_document sites bytes ≡ Ok doc
    → (docs : List Doc) × AllZip (λ document found. text_document sites document ≡ Ok found) documents docs × (together docs ≡ doc)
