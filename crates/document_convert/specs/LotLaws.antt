-- What becomes of lots, in the words of the one who recalls one.
use Rattle.std.specs.Prelude.{◌≡◌, ◌⊎◌, ℕ, false, codes, Contains, List, [], ◌∷◌, map, None, Some, Ok}
use Rattle.std.specs.List.{list_any}
use Rattle.event_json.specs.Checks.{type_text}
use Rattle.event_json.specs.Untraced.{in_order}
use Rattle.serde_json.specs.Data.{Data, Items, array, string}
use Rattle.serde_json.specs.Find.{get}
use Rattle.serde_json.specs.View.{items_of}
use Rattle.epc_core.specs.Items.{key_of}
use Rattle.epc_core.specs.Numbers.{IsChecked}
use Rattle.epc_core.specs.Serials.{IsSerial}
use Rattle.event_json.specs.Documents.{document_of, event_list}
use Rattle.event_json.specs.Members.{member_named}
use Rattle.event_json.specs.Sites.{Site}
use Rattle.event_json.specs.declared.documents.Doc.{Doc}
use Rattle.document_convert.specs.Lots.{SpellsLot, lot_of}
use Rattle.item_spellings.specs.Lots.{lot_text}
use Rattle.document_convert.specs.Quantities.{and_texts, list_of, lot_in, lots_of, moved, with_its_lots}
use Rattle.document_convert.specs.Respelled.{Spelling, respelled_item, respelled_text, spelled_item, spells_otherwise, with_spelled}
use Rattle.document_convert.specs.LotEvents.{has_unit_lots}
use Rattle.document_convert.specs.Lotted.{converted_event, document_with_lots, events_with_lots, has_lots}

-- ---- the spelling of a lot

-- Each text that spells a lot is turned into the spelling of this lot: so two spellings of one lot become one item.
abbrev pub SpellingsBecomeOne : Type 0
SpellingsBecomeOne = (text gtin number : List ℕ) → SpellsLot text gtin number → lot_of text ≡ Some (lot_text gtin number)

-- a lot that a text spells
abbrev pub IsLotOf : List ℕ → List ℕ → Type 0
IsLotOf text spelled = (gtin : List ℕ) × (number : List ℕ) × SpellsLot text gtin number × (spelled ≡ lot_text gtin number)

-- And what a text is turned into is the spelling of a lot that the text spells.
abbrev pub SpelledAreLots : Type 0
SpelledAreLots = (text spelled : List ℕ) → lot_of text ≡ Some spelled → IsLotOf text spelled

-- Two lots never become one: the items of two spellings are one only where the GTINs and the numbers are.
abbrev pub LotsStayApart : Type 0
LotsStayApart = (gtin number other another : List ℕ) → IsChecked 14 gtin → IsSerial number → IsChecked 14 other → IsSerial another
    → key_of (lot_text gtin number) ≡ key_of (lot_text other another) → (gtin ≡ other) × (number ≡ another)

-- ---- the lots of an event

-- the text is an item of a list of an event
abbrev pub Names : List ℕ → List ℕ → Data → Type 0
Names items text d = (list : Items) × (list_of (member_named items d) ≡ Some list) × Contains (in_order list) (string text)

-- what is moved from a list of quantities to a list of items: all items stay, in order, each lot stands behind them, no quantity stays, and
-- no other member changes
pub record IsMoved (quantities items : List ℕ) (d found : Data) : Type 0 where
  pub lots : List (List ℕ)
  pub each : lots_of (member_named quantities d) ≡ Some lots
  pub behind : (list : Items) → list_of (member_named items d) ≡ Some list → list_of (member_named items found) ≡ Some (and_texts list lots)
  pub named : (lot : List ℕ) → Contains lots lot → Names items lot found
  pub none_left : lots_of (member_named quantities found) ≡ Some []
  pub others : (name : List ℕ) → (name ≡ quantities → ⊥) → (name ≡ items → ⊥) → get name found ≡ get name d

abbrev pub LotsAreMoved : Type 0
LotsAreMoved = (quantities items : List ℕ) (d found : Data) → (quantities ≡ items → ⊥) → moved quantities items d ≡ Some found → IsMoved quantities items d found

-- where an event is left as it is: an element of its quantities has no lot, or a list is none
abbrev pub IsStuck : List ℕ → List ℕ → Data → Type 0
IsStuck quantities items d = (lots_of (member_named quantities d) ≡ None) ⊎ (list_of (member_named items d) ≡ None)

-- the lots of an event with one list of quantities
abbrev pub IsFilled : List ℕ → List ℕ → Data → Type 0
IsFilled quantities items d = IsMoved quantities items d (with_its_lots d) ⊎ (IsStuck quantities items d × (with_its_lots d ≡ d))

-- the lots of an event with two
abbrev pub AreFilled : List ℕ → List ℕ → List ℕ → List ℕ → Data → Type 0
AreFilled quantities items others behind d =
    ((half : Data) × IsMoved quantities items d half × IsMoved others behind half (with_its_lots d))
    ⊎ ((IsStuck quantities items d ⊎ ((half : Data) × IsMoved quantities items d half × IsStuck others behind half)) × (with_its_lots d ≡ d))

-- Each lot of an event's quantities stands in the list of the same role.
pub record LotsAreNamed : Type 0 where
  pub objects : (d : Data) → type_text d ≡ Some (codes "ObjectEvent") → IsFilled (codes "quantityList") (codes "epcList") d
  pub aggregations : (d : Data) → type_text d ≡ Some (codes "AggregationEvent") → IsFilled (codes "childQuantityList") (codes "childEPCs") d
  pub transformations : (d : Data) → type_text d ≡ Some (codes "TransformationEvent")
      → AreFilled (codes "inputQuantityList") (codes "inputEPCList") (codes "outputQuantityList") (codes "outputEPCList") d

-- A text in a list of items stays, or becomes the one spelling of the lot that it spells.
pub record TextsAreRespelled : Type 0 where
  pub lots : (text gtin number : List ℕ) → SpellsLot text gtin number → respelled_item (string text) ≡ string (lot_text gtin number)
  pub others : (text : List ℕ) → ((gtin number : List ℕ) → SpellsLot text gtin number → ⊥) → respelled_item (string text) ≡ string text

-- the text, or each item of the array, that is this member is respelled in its place, and no other member changes
pub record IsSpelled (f : Spelling) (name : List ℕ) (d found : Data) : Type 0 where
  pub list : (items : Items) → member_named name d ≡ Some (array items) → member_named name found ≡ Some (array (items_of (map (spelled_item f) (in_order items))))
  pub text : (text : List ℕ) → member_named name d ≡ Some (string text) → member_named name found ≡ Some (spelled_item f (string text))
  pub others : (other : List ℕ) → (other ≡ name → ⊥) → get other found ≡ get other d

-- of one member after another
abbrev pub AreSpelled : Spelling → List ℕ → List ℕ → Data → Data → Type 0
AreSpelled f first second d found = (half : Data) × IsSpelled f first d half × IsSpelled f second half found

-- Of an event of each type those of its lists of items, and of the parent, and nothing else.
pub record EventsAreSpelled (f : Spelling) : Type 0 where
  pub objects : (d : Data) → type_text d ≡ Some (codes "ObjectEvent") → IsSpelled f (codes "epcList") d (with_spelled f d)
  pub aggregations : (d : Data) → type_text d ≡ Some (codes "AggregationEvent") → AreSpelled f (codes "parentID") (codes "childEPCs") d (with_spelled f d)
  pub transformations : (d : Data) → type_text d ≡ Some (codes "TransformationEvent")
      → AreSpelled f (codes "inputEPCList") (codes "outputEPCList") d (with_spelled f d)
  pub others : (d : Data) → (type_text d ≡ Some (codes "ObjectEvent") → ⊥) → (type_text d ≡ Some (codes "AggregationEvent") → ⊥)
      → (type_text d ≡ Some (codes "TransformationEvent") → ⊥) → with_spelled f d ≡ d

abbrev pub EventsAreRespelled : Type 0
EventsAreRespelled = EventsAreSpelled lot_of

-- ---- nothing gets lost

-- a list of quantities of an event has an element of this lot
abbrev pub NamesLot : List ℕ → List ℕ → Data → Type 0
NamesLot quantities lot d = (list : Items) × (e : Data) × (member_named quantities d ≡ Some (array list)) × Contains (in_order list) e × (lot_in e ≡ Some lot)

-- each item of a list is in this list, by its text, or by the one spelling of the lot that it spells
abbrev pub KeepsItems : List ℕ → Data → Type 0
KeepsItems items d = (text : List ℕ) → Names items text d → Names items (respelled_text text) (converted_event d)

-- each lot of a list of quantities is in the list of items of the same role, or it is in the list of quantities as before
abbrev pub KeepsLots : List ℕ → List ℕ → Data → Type 0
KeepsLots quantities items d = (lot : List ℕ) → NamesLot quantities lot d → Names items (respelled_text lot) (converted_event d) ⊎ NamesLot quantities lot (converted_event d)

-- and so is a parent
abbrev pub KeepsParent : Data → Type 0
KeepsParent d = (text : List ℕ) → member_named (codes "parentID") d ≡ Some (string text) → member_named (codes "parentID") (converted_event d) ≡ Some (string (respelled_text text))

-- NOTHING GETS LOST: each text that an event names as an item is named by its conversion, in the list of the same role, and so is each lot.
pub record NothingGetsLost : Type 0 where
  pub objects : (d : Data) → type_text d ≡ Some (codes "ObjectEvent") → KeepsItems (codes "epcList") d × KeepsLots (codes "quantityList") (codes "epcList") d
  pub aggregations : (d : Data) → type_text d ≡ Some (codes "AggregationEvent")
      → KeepsParent d × KeepsItems (codes "childEPCs") d × KeepsLots (codes "childQuantityList") (codes "childEPCs") d
  pub inputs : (d : Data) → type_text d ≡ Some (codes "TransformationEvent")
      → KeepsItems (codes "inputEPCList") d × KeepsLots (codes "inputQuantityList") (codes "inputEPCList") d
  pub outputs : (d : Data) → type_text d ≡ Some (codes "TransformationEvent")
      → KeepsItems (codes "outputEPCList") d × KeepsLots (codes "outputQuantityList") (codes "outputEPCList") d

-- an event does not change, and none is added, that has no quantities, names no lot otherwise than by its one spelling, and tells none of units
abbrev pub WithoutStays : Type 0
WithoutStays = (d : Data) → has_lots d ≡ false → events_with_lots d ≡ d ∷ []

-- A document that a capture reads has no quantities: it stays as it is where no event of it spells a lot otherwise, or tells one of units.
abbrev pub ReadStaysWithLots : Type 0
ReadStaysWithLots = (sites : List Site) (d : Data) (doc : Doc) (events : Items) → document_of sites d ≡ Ok doc → event_list d ≡ Ok events
    → list_any spells_otherwise (in_order events) ≡ false → list_any has_unit_lots (in_order events) ≡ false → document_with_lots d ≡ d
