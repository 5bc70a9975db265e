-- What becomes of the lots that an event's master data names, in the words of the one who recalls one.
use Rattle.std.specs.Prelude.{◌≡◌, ◌⊎◌, ◌≤◌, ◌+◌, ◌*◌, ℕ, codes, Contains, List, [], ◌∷◌, ◌++◌, length, Option, Some, None, Ok}
use Rattle.std.specs.Fmt.{decimal}
use Rattle.serde_json.specs.Data.{Data, Items, array, string}
use Rattle.serde_json.specs.Find.{get}
use Rattle.epc_core.specs.Items.{sgtin_key}
use Rattle.epc_core.specs.Numbers.{IsChecked}
use Rattle.epc_core.specs.Serials.{IsSerial}
use Rattle.epc_core.specs.Spellings.{Spells}
use Rattle.event_json.specs.Checks.{type_text}
use Rattle.event_json.specs.Documents.{event_list}
use Rattle.event_json.specs.Members.{member_named}
use Rattle.event_json.specs.Untraced.{in_order}
use Rattle.item_spellings.specs.Lots.{lot_text}
use Rattle.document_convert.specs.LotEvents.{array_of, lot_events}
use Rattle.document_convert.specs.LotLaws.{Names}
use Rattle.document_convert.specs.Lotted.{converted_event, document_with_lots, events_with_lots, lotted}
use Rattle.document_convert.specs.Quantities.{and_texts, list_of}
use Rattle.document_convert.specs.UnitLots.{lots_named, numbers_named, units_of}

-- ---- what an event says

-- the names by which `ilmd` names a lot
abbrev pub IsLotName : List ℕ → Type 0
IsLotName name = (name ≡ codes "cbvmda:lotNumber") ⊎ ((name ≡ codes "lotNumber") ⊎ (name ≡ codes "urn:epcglobal:cbv:mda#lotNumber"))

-- a member is this text, or an array that has it
abbrev pub Tells : List ℕ → Option Data → Type 0
Tells text value = (value ≡ Some (string text)) ⊎ ((list : Items) × (value ≡ Some (array list)) × Contains (in_order list) (string text))

-- the `ilmd` of an event names the lot of this number
pub record NamesLotOfUnits (number : List ℕ) (d : Data) : Type 0 where
  pub ilmd : Data
  pub there : member_named (codes "ilmd") d ≡ Some ilmd
  pub name : List ℕ
  pub is_name : IsLotName name
  pub told : Tells number (member_named name ilmd)
  pub allowed : IsSerial number

-- the list of the units whose lot that is
abbrev pub HasUnits : List ℕ → Data → Type 0
HasUnits items d =
    ((type_text d ≡ Some (codes "ObjectEvent")) × (items ≡ codes "epcList"))
    ⊎ ((type_text d ≡ Some (codes "TransformationEvent")) × (items ≡ codes "outputEPCList"))

-- the text stands in that list, and spells a unit of this GTIN
pub record IsUnitOf (text gtin : List ℕ) (d : Data) : Type 0 where
  pub items : List ℕ
  pub role : HasUnits items d
  pub named : Names items text d
  pub serial : List ℕ
  pub checked : IsChecked 14 gtin
  pub spells : Spells text (sgtin_key gtin serial)

-- `ilmd` names at most ten lot numbers, and the units of the event are at most 1,000, each counted once for each lot
pub record HasFewLots (d : Data) : Type 0 where
  pub numbers : length (numbers_named d) ≤ 10
  pub units : length (lots_named d) * length (units_of d) ≤ 1000

-- ---- the events that lead from a lot to its units

-- this one leads from one lot to these units, has the time of another event, and beside an identifier nothing else
pub record LeadsFrom (lot : List ℕ) (units : List (List ℕ)) (d e : Data) : Type 0 where
  pub type : type_text e ≡ Some (codes "TransformationEvent")
  pub input : member_named (codes "inputEPCList") e ≡ Some (array_of (lot ∷ []))
  pub outputs : member_named (codes "outputEPCList") e ≡ Some (array_of units)
  pub time : member_named (codes "eventTime") e ≡ member_named (codes "eventTime") d
  pub offset : member_named (codes "eventTimeZoneOffset") e ≡ member_named (codes "eventTimeZoneOffset") d
  pub nothing_else : (name : List ℕ) → (name ≡ codes "type" → ⊥) → (name ≡ codes "inputEPCList" → ⊥) → (name ≡ codes "outputEPCList" → ⊥)
      → (name ≡ codes "eventID" → ⊥) → (name ≡ codes "eventTime" → ⊥) → (name ≡ codes "eventTimeZoneOffset" → ⊥) → get name e ≡ None

-- this one was derived of an event: it leads from one lot, which the event's `ilmd` names, to units of the event, which have the lot's GTIN
pub record IsDerived (d e : Data) : Type 0 where
  pub number : List ℕ
  pub gtin : List ℕ
  pub units : List (List ℕ)
  pub named : NamesLotOfUnits number d
  pub leads : LeadsFrom (lot_text gtin number) units d e
  pub are_units : (text : List ℕ) → Contains units text → IsUnitOf text gtin d

-- each event as it is written, in order, and right behind it those that were derived of it
abbrev pub AreWithDerived : List Data → List Data → Type 0
AreWithDerived [] found = found ≡ []
AreWithDerived (d ∷ ds) found =
    (derived : List Data) × (rest : List Data) × (found ≡ converted_event d ∷ (derived ++ rest))
    × ((e : Data) → Contains derived e → IsDerived d e) × AreWithDerived ds rest

-- ---- the laws

-- Each unit of a lot that is named, where they aren't too many, has an event in the converted document that leads from the lot's spelling to it.
abbrev pub UnitsAreLed : Type 0
UnitsAreLed =
    (d e : Data) (events : Items) (number text gtin : List ℕ) → event_list d ≡ Ok events → Contains (in_order events) e
    → HasFewLots e → NamesLotOfUnits number e → IsUnitOf text gtin e
    → (found : Items) × (event_list (document_with_lots d) ≡ Ok found)
    × (led : Data) × Contains (in_order found) led × (units : List (List ℕ)) × LeadsFrom (lot_text gtin number) units e led × Contains units text

-- Nothing is lost and nothing is invented: the converted document has each event, in order, and behind it only events that were derived of it.
abbrev pub NothingIsInvented : Type 0
NothingIsInvented =
    (d : Data) (events : Items) → event_list d ≡ Ok events
    → (found : Items) × (event_list (document_with_lots d) ≡ Ok found) × AreWithDerived (in_order events) (in_order found)

-- these are lots that `ilmd` names, with the GTIN of a unit each
abbrev pub AreLotsOf : Data → List (List ℕ) → Type 0
AreLotsOf d lots =
    (lot : List ℕ) → Contains lots lot → (number : List ℕ) × (gtin : List ℕ) × (text : List ℕ) × NamesLotOfUnits number d × IsUnitOf text gtin d × (lot ≡ lot_text gtin number)

-- An event is written as it was without this, but that a transformation makes the lots of its units, too: behind what it makes, which stays.
pub record LotsAreMade : Type 0 where
  pub same : (d : Data) → (type_text d ≡ Some (codes "TransformationEvent") → ⊥) → converted_event d ≡ lotted d
  pub others : (d : Data) (name : List ℕ) → (name ≡ codes "outputEPCList" → ⊥) → get name (converted_event d) ≡ get name (lotted d)
  pub behind : (d : Data) (text : List ℕ) (list : Items) → Names (codes "outputEPCList") text (lotted d) → list_of (member_named (codes "outputEPCList") (lotted d)) ≡ Some list
      → (lots : List (List ℕ)) × AreLotsOf d lots × (list_of (member_named (codes "outputEPCList") (converted_event d)) ≡ Some (and_texts list lots))
  pub made : (d : Data) (number text gtin : List ℕ) → type_text d ≡ Some (codes "TransformationEvent") → HasFewLots d → NamesLotOfUnits number d → IsUnitOf text gtin d
      → Names (codes "outputEPCList") (lot_text gtin number) (converted_event d)

-- An event whose `ilmd` names no lot, that has no units of a GTIN, or that has too many of both, is written as before, and nothing behind it.
pub record WithoutLotsAsBefore : Type 0 where
  pub no_lot : (d : Data) → ((number : List ℕ) → NamesLotOfUnits number d → ⊥) → events_with_lots d ≡ lotted d ∷ []
  pub no_unit : (d : Data) → ((text gtin : List ℕ) → IsUnitOf text gtin d → ⊥) → events_with_lots d ≡ lotted d ∷ []
  pub too_many : (d : Data) → (HasFewLots d → ⊥) → events_with_lots d ≡ lotted d ∷ []

-- The events of an event's lots have its identifier and their number, where it has one: the same event gives the same ones, and no two are one.
pub record LotsAreNumbered : Type 0 where
  pub numbered : (d e : Data) (id : List ℕ) (before behind : List Data) → member_named (codes "eventID") d ≡ Some (string id) → lot_events d ≡ before ++ e ∷ behind
      → length (id ++ (codes "#lot" ++ decimal (1 + length before))) ≤ 512
      → member_named (codes "eventID") e ≡ Some (string (id ++ (codes "#lot" ++ decimal (1 + length before))))
  pub without : (d e : Data) → member_named (codes "eventID") d ≡ None → Contains (lot_events d) e → member_named (codes "eventID") e ≡ None
