-- The lots that an event's instance/lot master data names, and the units that they are the lots of (GS1 EPCIS 2.0, section 7.3: ILMD; Core
-- Business Vocabulary 2.0: lotNumber).
use Rattle.std.specs.Prelude.{ℕ, ◌*◌, ◌==◌, Bool, ◌&&◌, not, nat_le, length, if◌then◌else◌, List, [], ◌∷◌, ◌++◌, bytes_eq, codes, filter, map, take, Option, Some, None, option_and_then, option_map, unwrap_or, Result, Ok, Err}
use Rattle.std.specs.List.{filter_map, flat_map, list_any}
use Rattle.serde_json.specs.Data.{Data, Items}
use Rattle.serde_json.specs.Find.{as_array, as_str}
use Rattle.epc_core.specs.Items.{behind}
use Rattle.epc_core.specs.Reading.{reading}
use Rattle.epc_core.specs.Serials.{is_serial}
use Rattle.event_json.specs.Checks.{type_text}
use Rattle.event_json.specs.Members.{member_named}
use Rattle.event_json.specs.Untraced.{in_order}
use Rattle.item_spellings.specs.Lots.{lot_text}

-- ---- lists of texts

-- the texts of an array
abbrev pub texts_in : Items → List (List ℕ)
texts_in items = filter_map as_str (in_order items)

-- a text, or those of an array
abbrev pub text_or_texts : Option (List ℕ) → Data → List (List ℕ)
text_or_texts (Some text) d = text ∷ []
text_or_texts None d = unwrap_or (option_map texts_in (as_array d)) []

-- a list with this text at its end, where it isn't in it yet
abbrev pub with_new : List (List ℕ) → List ℕ → List (List ℕ)
with_new seen text = if list_any (bytes_eq text) seen then seen else seen ++ text ∷ []

-- a list, and of these texts those that aren't in it, each once, in order
abbrev pub distinct_from : List (List ℕ) → List (List ℕ) → List (List ℕ)
distinct_from seen [] = seen
distinct_from seen (text ∷ texts) = distinct_from (with_new seen text) texts

-- ---- the lots that `ilmd` names

-- what a member names
abbrev pub texts_of : Option Data → List (List ℕ)
texts_of value = unwrap_or (option_map (λ d. text_or_texts (as_str d) d) value) []

-- what the lot numbers of `ilmd` name, by each of the three names that the vocabulary's `lotNumber` has in a document
abbrev pub named_in : Data → List (List ℕ)
named_in ilmd =
    (texts_of (member_named (codes "cbvmda:lotNumber") ilmd) ++ texts_of (member_named (codes "lotNumber") ilmd))
    ++ texts_of (member_named (codes "urn:epcglobal:cbv:mda#lotNumber") ilmd)

abbrev pub named_by : Option Data → List (List ℕ)
named_by ilmd = unwrap_or (option_map named_in ilmd) []

-- those of them that are lot numbers: 1 to 20 of the 82 characters
unfoldable pub numbers_named : Data → List (List ℕ)
numbers_named d = filter is_serial (named_by (member_named (codes "ilmd") d))

-- the lots that an event names so, each once, in order
abbrev pub lots_named : Data → List (List ℕ)
lots_named d = distinct_from [] (numbers_named d)

-- ---- the units of an event

-- the GTIN of the unit with this key
abbrev pub gtin_of_key : List ℕ → Option (List ℕ)
gtin_of_key key = option_map (take 14) (behind (codes "sgtin ") key)

abbrev pub gtin_read : {E : Type 0} → Result (List ℕ) E → Option (List ℕ)
gtin_read (Ok key) = gtin_of_key key
gtin_read (Err e) = None

-- the GTIN of the unit that a text spells
unfoldable pub gtin_of : List ℕ → Option (List ℕ)
gtin_of text = gtin_read (reading text)

-- the unit that a text spells, as its GTIN and this text
abbrev pub unit_in : List ℕ → Option (List ℕ × List ℕ)
unit_in text = option_map (λ gtin. (gtin, text)) (gtin_of text)

-- the units in the array of a member
abbrev pub units_at : List ℕ → Data → List (List ℕ × List ℕ)
units_at name d = filter_map unit_in (unwrap_or (option_map texts_in (option_and_then as_array (member_named name d))) [])

-- those of which an event of this type tells the lot
abbrev pub units_by : Data → List ℕ → List (List ℕ × List ℕ)
units_by d type =
    if bytes_eq type (codes "ObjectEvent") then units_at (codes "epcList") d else
    if bytes_eq type (codes "TransformationEvent") then units_at (codes "outputEPCList") d else []

abbrev pub units_of : Data → List (List ℕ × List ℕ)
units_of d = unwrap_or (option_map (units_by d) (type_text d)) []

-- ---- the lots with their units

-- the texts of the units with this GTIN
abbrev pub texts_with : List (List ℕ × List ℕ) → List ℕ → List (List ℕ)
texts_with units gtin = map (λ (unit : List ℕ × List ℕ). unit.1) (filter (λ (unit : List ℕ × List ℕ). bytes_eq unit.0 gtin) units)

-- the GTINs of units, in the order in which they first come
abbrev pub gtins_of : List (List ℕ × List ℕ) → List (List ℕ)
gtins_of units = distinct_from [] (map (λ (unit : List ℕ × List ℕ). unit.0) units)

-- the lot of this number and GTIN, by its one spelling, with the texts of its units
abbrev pub lot_with : List (List ℕ × List ℕ) → List ℕ → List ℕ → List ℕ × List (List ℕ)
lot_with units number gtin = (lot_text gtin number, texts_with units gtin)

-- the lots of this number, one for each GTIN
abbrev pub lots_numbered : List (List ℕ × List ℕ) → List ℕ → List (List ℕ × List (List ℕ))
lots_numbered units number = map (lot_with units number) (gtins_of units)

-- ---- those of an event

-- the lot numbers that an event's `ilmd` names are at most ten, and its units, each counted once for each lot, no more than a list of a
-- document may have
abbrev pub has_few_lots : Data → Bool
has_few_lots d = nat_le (length (numbers_named d)) 10 && nat_le (length (lots_named d) * length (units_of d)) 1000

-- the lots of an event's units: each that `ilmd` names, for each GTIN; none where they are more
abbrev pub unit_lots : Data → List (List ℕ × List (List ℕ))
unit_lots d = if has_few_lots d then flat_map (lots_numbered (units_of d)) (lots_named d) else []

-- it has units, and more lots of these
abbrev pub is_untied : Data → Bool
is_untied d = not (has_few_lots d) && not (length (units_of d) == 0)
