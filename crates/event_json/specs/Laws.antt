-- Laws of a document's reading, which any right definition of it meets. They fix what a list of events gives (`events_of`), and what a
-- document's value gives by its list (`document_of`). They leave open which list a value has (`event_list`), what one event says
-- (`event_of`), and which value is read of the bytes (`text_document`): these stand by their cases, and by rows of examples in tests.
use Rattle.std.specs.Prelude.{All, ◌≡◌, ◌↔◌, ℕ, zero, suc, ◌+◌, ◌<◌, ◌≤◌, ◌⊎◌, IsTrue, IsOk, List, [], ◌∷◌, ◌++◌, length, codes, ⊤, Result, slice_get, filter, filter_map, is_none, Option, Some, None, Ok, Err}
use Rattle.std.specs.List.{Contains}
use Rattle.std.specs.Cmp.Lexicographic.{pointwise}
use Rattle.serde_json.specs.Data.{Data, Items, no_items, item}
use Rattle.serde_json.specs.Find.{as_array}
use Rattle.event_json.specs.declared.bodies.Body.{Body}
use Rattle.event_json.specs.declared.bodies.Body.TheVariants.{Note, Ship}
use Rattle.event_json.specs.declared.event_types.EventType.{EventType}
use Rattle.event_json.specs.declared.event_types.EventType.TheVariants.{Object, Aggregation, Transaction, Transformation, Association}
use Rattle.event_json.specs.declared.doc_faults.DocField.{DocField}
use Rattle.event_json.specs.declared.site_lists.SitesFault.TheVariants.{TooMany}
use Rattle.event_json.specs.declared.doc_faults.DocField.TheVariants as fields
use Rattle.event_json.specs.declared.doc_faults.DocFaultKind.TheVariants as kinds
use Rattle.event_json.specs.declared.doc_faults.Flaw.{Flaw}
use Rattle.event_json.specs.declared.doc_faults.DocFault.{DocFault}
use Rattle.event_json.specs.declared.documents.Doc.{Doc}
use Rattle.event_json.specs.Checks.{event_type, offset_checked}
use Rattle.event_json.specs.Contents.{same_body, same_content, same_site}
use Rattle.event_json.specs.Documents.{whole, event_list, events_of, document_of, text_document}
use Rattle.event_json.specs.EventReading.{event_of, event_of_type, shipment}
use Rattle.event_json.specs.Events.{Content}
use Rattle.event_json.specs.Members.{count_of, member_named, member_of}
use Rattle.event_json.specs.ItemLists.{epc_of, epcs_of, destination_of, destinations_of}
use Rattle.event_json.specs.Names.{field_name}
use Rattle.event_json.specs.Sites.{Site, is_site_name, named, addressed, sites_fault, ShipsAmong}

-- the member of an array at this place, from 0
abbrev pub member_at : Items → ℕ → Option Data
member_at no_items place = None
member_at (item d ds) zero = Some d
member_at (item d ds) (suc place) = member_at ds place

-- the event at each place was read as it stands there, and the document has those that weren't skipped, in order, and
-- the number of the others
pub record IsRead (sites : List Site) (items : Items) (doc : Doc) : Type 0 where
  pub found : List (Option Content)
  pub counted : length found ≡ count_of items
  pub each : (place : ℕ) (d : Data) → member_at items place ≡ Some d → (e : Option Content) × (slice_get found place ≡ Some e) × (event_of sites d ≡ Ok e)
  pub kept : doc.events ≡ filter_map (λ e. e) found
  pub skipped : doc.skipped ≡ length (filter is_none found)

-- the fault is that of the first event that doesn't pass, reported with its place from 1
pub record IsFirstFault (sites : List Site) (items : Items) (fault : DocFault) : Type 0 where
  pub place : ℕ
  pub value : Data
  pub flaw : Flaw
  pub stands : member_at items place ≡ Some value
  pub refused : event_of sites value ≡ Err flaw
  pub before : (earlier : ℕ) (d : Data) → earlier < place → member_at items earlier ≡ Some d → IsOk (event_of sites d)
  pub told : fault ≡ record { event = place + 1; field = flaw.field; kind = flaw.kind }

abbrev pub EventsAreRead : Type 0
EventsAreRead = (sites : List Site) (items : Items) (doc : Doc) → events_of sites items ≡ Ok doc → IsRead sites items doc

abbrev pub FirstFaultIsTold : Type 0
FirstFaultIsTold = (sites : List Site) (items : Items) (fault : DocFault) → events_of sites items ≡ Err fault → IsFirstFault sites items fault

-- a list is read exactly where each of its events passes
abbrev pub AllPass : Type 0
AllPass = (sites : List Site) (items : Items) → IsOk (events_of sites items) ↔ ((place : ℕ) (d : Data) → member_at items place ≡ Some d → IsOk (event_of sites d))

-- a document that is read has a list of at most 1,000 events, which is read, and each of them is kept or skipped; the
-- fault of another is that it has no such list, or has too many events, or is the list's fault
abbrev pub DocumentsAreLists : Type 0
DocumentsAreLists = (sites : List Site) (d : Data)
    → ((doc : Doc) → document_of sites d ≡ Ok doc
    → (items : Items) × (event_list d ≡ Ok items) × (count_of items ≤ 1000) × (events_of sites items ≡ Ok doc) × (length doc.events + doc.skipped ≡ count_of items))
    × ((fault : DocFault) → document_of sites d ≡ Err fault
    → (event_list d ≡ Err fault)
    ⊎ ((items : Items) × (event_list d ≡ Ok items)
    × (((1000 < count_of items) × (fault ≡ whole fields.EventList kinds.TooManyEvents)) ⊎ ((count_of items ≤ 1000) × (events_of sites items ≡ Err fault)))))

-- each destination went to one of the two lists: to the sites where one of them has the address, as that site's number, and
-- else to the outside texts, as it is; repeats are kept, and so is the order
abbrev pub IsDealt : List Site → List (List ℕ) → List ℕ → List (List ℕ) → Type 0
IsDealt sites [] traced outside = (traced ≡ []) × (outside ≡ [])
IsDealt sites (text ∷ texts) traced outside =
    ((site : ℕ) × (rest : List ℕ) × (addressed sites text ≡ Some site) × (traced ≡ site ∷ rest) × IsDealt sites texts rest outside)
    ⊎ ((rest : List (List ℕ)) × (addressed sites text ≡ None) × (outside ≡ text ∷ rest) × IsDealt sites texts traced rest)

-- items without a destination were seen, and those with some were shipped to all of them
abbrev pub DestinationsAreDealt : Type 0
DestinationsAreDealt = (sites : List Site) (items : List (List ℕ)) (text : List ℕ) (texts : List (List ℕ))
    → (shipment sites items [] ≡ Note items)
    × ((traced : List ℕ) × (outside : List (List ℕ)) × (shipment sites items (text ∷ texts) ≡ Ship items traced outside) × IsDealt sites (text ∷ texts) traced outside)

-- whatever the events of a document ship goes to sites of the list, or outside
abbrev pub ShipsToSites : List Site → Doc → Type 0
ShipsToSites sites doc = All (λ e. ShipsAmong (length sites) e.body) doc.events

-- a document that is read does, whether as a value or as bytes
abbrev pub DocumentsShipToSites : Type 0
DocumentsShipToSites =
    ((sites : List Site) (d : Data) (doc : Doc) → document_of sites d ≡ Ok doc → ShipsToSites sites doc)
    × ((sites : List Site) (text : List ℕ) (doc : Doc) → text_document sites text ≡ Ok doc → ShipsToSites sites doc)

-- the tests of `==` find what is equal
abbrev pub EqualIsSame : Type 0
EqualIsSame = ((b c : Body) → IsTrue (same_body b c) ↔ (b ≡ c)) × ((e f : Content) → IsTrue (same_content e f) ↔ (e ≡ f)) × ((s t : List Site) → IsTrue (pointwise same_site s t) ↔ (s ≡ t))

-- the texts of an offset, by the six bytes that they have: `+` or `-`; 00 to 09 or 10 to 14; `:`; 00 to 59
pub record IsOffsetText (text : List ℕ) : Type 0 where
  pub sign : ℕ
  pub tens : ℕ
  pub hours : ℕ
  pub ten_minutes : ℕ
  pub minutes : ℕ
  pub bytes : text ≡ sign ∷ (48 + tens) ∷ (48 + hours) ∷ 58 ∷ (48 + ten_minutes) ∷ (48 + minutes) ∷ []
  pub signed : (sign ≡ 43) ⊎ (sign ≡ 45)
  pub to_14 : ((tens ≡ 0) × (hours ≤ 9)) ⊎ ((tens ≡ 1) × (hours ≤ 4))
  pub to_59 : (ten_minutes ≤ 5) × (minutes ≤ 9)

-- these texts pass, and all others are refused as offsets
abbrev pub OffsetsAreThese : Type 0
OffsetsAreThese = (text : List ℕ)
    → ((offset_checked text ≡ Ok tt) ↔ IsOffsetText text)
    × ((offset_checked text ≡ Err (record { field = fields.EventTimeZoneOffset; kind = kinds.Offset })) ↔ (¬ IsOffsetText text))

-- the members of an event of each type in the order in which they are looked at, as the standard spells them
abbrev pub order_of : EventType → List (List ℕ)
order_of Object =
    codes "errorDeclaration" ∷ codes "quantityList" ∷ codes "eventID" ∷ codes "eventTime" ∷ codes "eventTimeZoneOffset" ∷ codes "action"
    ∷ codes "epcList" ∷ codes "destinationList" ∷ []
order_of Transformation =
    codes "errorDeclaration" ∷ codes "inputQuantityList" ∷ codes "outputQuantityList" ∷ codes "eventID" ∷ codes "eventTime" ∷ codes "eventTimeZoneOffset"
    ∷ codes "inputEPCList" ∷ codes "outputEPCList" ∷ codes "transformationID" ∷ []
order_of Aggregation =
    codes "errorDeclaration" ∷ codes "childQuantityList" ∷ codes "eventID" ∷ codes "eventTime" ∷ codes "eventTimeZoneOffset" ∷ codes "action"
    ∷ codes "parentID" ∷ codes "childEPCs" ∷ []
order_of Transaction = []
order_of Association = []

-- both have the same members of these names
abbrev pub HaveSame : List (List ℕ) → Data → Data → Type 0
HaveSame [] d e = ⊤
HaveSame (name ∷ names) d e = (member_named name d ≡ member_named name e) × HaveSame names d e

-- a fault names a member of this order, and comes of it and of those before it: a value that has the same of these has the same
-- fault, whatever stands in the later ones
pub record IsFaultBy {A : Type 0} (order : List (List ℕ)) (read : Data → Result A Flaw) (d : Data) (flaw : Flaw) : Type 0 where
  pub earlier : List (List ℕ)
  pub later : List (List ℕ)
  pub stands : order ≡ earlier ++ field_name flaw.field ∷ later
  pub decides : (e : Data) → HaveSame (earlier ++ field_name flaw.field ∷ []) d e → read e ≡ Err flaw

-- what an event says comes of these members alone, and its fault is the first in their order
abbrev pub FaultsComeInOrder : Type 0
FaultsComeInOrder = (sites : List Site) (its_type : EventType)
    → ((d e : Data) → HaveSame (order_of its_type) d e → event_of_type sites its_type d ≡ event_of_type sites its_type e)
    × ((d : Data) (flaw : Flaw) → event_of_type sites its_type d ≡ Err flaw → IsFaultBy (order_of its_type) (event_of_type sites its_type) d flaw)

-- the type of an event is looked at before all of these
abbrev pub TypesComeFirst : Type 0
TypesComeFirst = (sites : List Site) (d : Data)
    → ((its_type : EventType) → event_type d ≡ Ok its_type → event_of sites d ≡ event_of_type sites its_type d)
    × ((flaw : Flaw) → event_type d ≡ Err flaw → event_of sites d ≡ Err flaw)

-- of a list of at most 1,000 members something is found where each of them passes; a longer one is refused
abbrev pub IsLimited : {A : Type 0} → DocField → (Data → Result A Flaw) → Items → Result (List A) Flaw → Type 0
IsLimited field check items found =
    (IsOk found ↔ ((count_of items ≤ 1000) × ((place : ℕ) (d : Data) → member_at items place ≡ Some d → IsOk (check d))))
    × (1000 < count_of items → found ≡ Err (record { field = field; kind = kinds.TooManyEpcs }))

-- lists of items have this limit, and the list of destinations has
abbrev pub ListsAreLimited : Type 0
ListsAreLimited =
    ((field : DocField) (d list : Data) (items : Items) → member_of field d ≡ Some list → as_array list ≡ Some items → IsLimited field (epc_of field) items (epcs_of field d))
    × ((d list : Data) (items : Items) → member_of fields.DestinationList d ≡ Some list → as_array list ≡ Some items
    → IsLimited fields.DestinationList destination_of items (destinations_of d))

-- the 64 characters that a site's name may have
abbrev pub name_characters : List ℕ
name_characters = codes "-0123456789ABCDEFGHIJKLMNOPQRSTUVWXYZ_abcdefghijklmnopqrstuvwxyz"

-- a site's name is 1 to 16 of these characters, and each such text is one
abbrev pub SiteNamesAreThese : Type 0
SiteNamesAreThese = (name : List ℕ) → IsTrue (is_site_name name) ↔ ((1 ≤ length name) × (length name ≤ 16) × All (Contains name_characters) name)

-- a site of a good new name is one too many after 16 sites, or with more than 16 addresses, and not before
abbrev pub SitesAreLimited : Type 0
SitesAreLimited = (sites : List Site) (name : List ℕ) (addresses : List (List ℕ))
    → (sites_fault sites name addresses ≡ Some TooMany)
    ↔ (IsTrue (is_site_name name) × (named sites name ≡ None) × ((16 ≤ length sites) ⊎ (16 < length addresses)))
