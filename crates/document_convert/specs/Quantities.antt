-- The lists of quantities of an event: each element is an amount of a class of goods, here of a lot (GS1 EPCIS 2.0, section 7.3: event
-- types, and the quantity element).
use Rattle.std.specs.Prelude.{ℕ, Bool, true, false, ◌||◌, if◌then◌else◌, List, [], ◌∷◌, ◌++◌, codes, bytes_eq, map, Option, Some, None, option_and_then, option_map, unwrap_or}
use Rattle.serde_json.specs.Data.{Data, null, boolean, number, string, array, object, Items, no_items, item, Members, no_members, member}
use Rattle.serde_json.specs.Find.{as_array, as_str}
use Rattle.serde_json.specs.View.{items_of}
use Rattle.event_json.specs.Checks.{type_text}
use Rattle.event_json.specs.Members.{member_named}
use Rattle.event_json.specs.Untraced.{in_order, is_text}
use Rattle.document_convert.specs.Types.{with_member}
use Rattle.document_convert.specs.Lots.{lot_of}

-- ---- the lots of a list of quantities

-- of an element
abbrev pub lot_in : Data → Option (List ℕ)
lot_in d = option_and_then lot_of (option_and_then as_str (member_named (codes "epcClass") d))

-- of all elements, in order; None where one has none
abbrev pub lots_in : Items → Option (List (List ℕ))
lots_in no_items = Some []
lots_in (item d ds) = option_and_then (λ lot. option_map (λ lots. lot ∷ lots) (lots_in ds)) (lot_in d)

-- of a member, which has none where it is absent
abbrev pub lots_of : Option Data → Option (List (List ℕ))
lots_of None = Some []
lots_of (Some d) = option_and_then lots_in (as_array d)

-- ---- an event with these lots

-- the array of a member, which is empty where it is absent
abbrev pub list_of : Option Data → Option Items
list_of None = Some no_items
list_of (Some d) = as_array d

-- the items of an array, and then these texts
abbrev pub and_texts : Items → List (List ℕ) → Items
and_texts items texts = items_of (in_order items ++ map string texts)

-- without the member of a name
abbrev pub without : List ℕ → Members → Members
without name no_members = no_members
without name (member l d ms) = if bytes_eq name l then without name ms else member l d (without name ms)

abbrev pub without_member : List ℕ → Data → Data
without_member name null = null
without_member name (boolean b) = boolean b
without_member name (number n) = number n
without_member name (string s) = string s
without_member name (array ds) = array ds
without_member name (object ms) = object (without name ms)

-- with these lots behind the items of one member, and without the other one; where there are none it stays as it is
abbrev pub with_lots : List ℕ → List ℕ → Data → List (List ℕ) → Option Data
with_lots quantities items d [] = Some d
with_lots quantities items d (lot ∷ lots) =
    option_map (λ found. without_member quantities (with_member items (array (and_texts found (lot ∷ lots))) d)) (list_of (member_named items d))

-- with the lots of a list of quantities behind the items of a list; None where an element has no lot, or a list is none
unfoldable pub moved : List ℕ → List ℕ → Data → Option Data
moved quantities items d = option_and_then (with_lots quantities items d) (lots_of (member_named quantities d))

-- the lots of all lists that an event of this type has
abbrev pub moved_by : Data → List ℕ → Option Data
moved_by d type =
    if bytes_eq type (codes "ObjectEvent") then moved (codes "quantityList") (codes "epcList") d else
    if bytes_eq type (codes "AggregationEvent") then moved (codes "childQuantityList") (codes "childEPCs") d else
    if bytes_eq type (codes "TransformationEvent")
    then option_and_then (moved (codes "outputQuantityList") (codes "outputEPCList")) (moved (codes "inputQuantityList") (codes "inputEPCList") d)
    else Some d

-- an event with its lots among its items; one with a quantity that has no lot stays as it is
unfoldable pub with_its_lots : Data → Data
with_its_lots d = unwrap_or (option_and_then (moved_by d) (type_text d)) d

-- ---- whether an event has quantities

-- an array with elements
abbrev pub is_filled : Option Items → Bool
is_filled None = false
is_filled (Some no_items) = false
is_filled (Some (item d ds)) = true

abbrev pub has_elements : Option Data → Bool
has_elements list = is_filled (option_and_then as_array list)

-- an event of a type that has quantities
abbrev pub has_by : Data → List ℕ → Bool
has_by d type =
    if bytes_eq type (codes "ObjectEvent") then has_elements (member_named (codes "quantityList") d) else
    if bytes_eq type (codes "AggregationEvent") then has_elements (member_named (codes "childQuantityList") d) else
    if bytes_eq type (codes "TransformationEvent")
    then has_elements (member_named (codes "inputQuantityList") d) || has_elements (member_named (codes "outputQuantityList") d)
    else false

abbrev pub has_quantities : Data → Bool
has_quantities d = is_text (has_by d) (type_text d)
