-- The events that lead from a lot to its units: TransformationEvents of GS1 EPCIS 2.0 (section 7.4.6), with the lot for their input.
use Rattle.std.specs.Prelude.{ℕ, ◌+◌, ◌==◌, Bool, not, nat_le, if◌then◌else◌, List, [], ◌∷◌, ◌++◌, bytes_eq, codes, length, map, Option, Some, None, option_and_then, option_map, unwrap_or}
use Rattle.std.specs.Fmt.{decimal}
use Rattle.serde_json.specs.Data.{Data, string, array, object, no_items, no_members, member}
use Rattle.serde_json.specs.Find.{as_str}
use Rattle.event_json.specs.Checks.{type_text}
use Rattle.event_json.specs.Members.{member_named}
use Rattle.event_json.specs.Untraced.{is_text}
use Rattle.document_convert.specs.Types.{with_member}
use Rattle.document_convert.specs.Quantities.{and_texts, list_of}
use Rattle.document_convert.specs.UnitLots.{unit_lots}

-- ---- the event of a lot

-- an array of these texts
abbrev pub array_of : List (List ℕ) → Data
array_of texts = array (and_texts no_items texts)

-- from a lot to its units
abbrev pub transformation : List ℕ → List (List ℕ) → Data
transformation lot units =
    object (member (codes "inputEPCList") (array_of (lot ∷ []))
    (member (codes "outputEPCList") (array_of units)
    (member (codes "type") (string (codes "TransformationEvent")) no_members)))

-- with a member as another value has it
abbrev pub with_found : List ℕ → Option Data → Data → Data
with_found name None e = e
with_found name (Some value) e = with_member name value e

abbrev pub with_own : List ℕ → Data → Data → Data
with_own name d e = with_found name (member_named name d) e

-- an identifier has at most 512 bytes
abbrev pub short : List ℕ → Option (List ℕ)
short text = if nat_le (length text) 512 then Some text else None

-- the identifier of the event of an event's nth lot, where the event has one
abbrev pub lot_id : Data → ℕ → Option (List ℕ)
lot_id d n = option_and_then (λ id. short (id ++ (codes "#lot" ++ decimal n))) (option_and_then as_str (member_named (codes "eventID") d))

abbrev pub with_id : Option (List ℕ) → Data → Data
with_id None e = e
with_id (Some id) e = with_member (codes "eventID") (string id) e

-- the event of an event's nth lot, which happened when that did
abbrev pub lot_event : Data → ℕ → List ℕ × List (List ℕ) → Data
lot_event d n (lot, units) =
    with_id (lot_id d n) (with_own (codes "eventTimeZoneOffset") d (with_own (codes "eventTime") d (transformation lot units)))

-- those of its lots from this number on
abbrev pub lot_events_from : Data → ℕ → List (List ℕ × List (List ℕ)) → List Data
lot_events_from d n [] = []
lot_events_from d n (lot ∷ lots) = lot_event d n lot ∷ lot_events_from d (n + 1) lots

-- those of all lots of an event's units
abbrev pub lot_events : Data → List Data
lot_events d = lot_events_from d 1 (unit_lots d)

-- ---- the event itself

-- the spellings of lots
abbrev pub spellings : List (List ℕ × List (List ℕ)) → List (List ℕ)
spellings lots = map (λ (lot : List ℕ × List (List ℕ)). lot.0) lots

-- with these texts behind the items of a member, where there are some
abbrev pub with_texts : List ℕ → List (List ℕ) → Data → Data
with_texts name texts d =
    if length texts == 0 then d else unwrap_or (option_map (λ found. with_member name (array (and_texts found texts)) d) (list_of (member_named name d))) d

-- a transformation makes the lots of what it makes, too
abbrev pub with_made : List (List ℕ) → Data → Data
with_made lots d = if is_text (λ type. bytes_eq type (codes "TransformationEvent")) (type_text d) then with_texts (codes "outputEPCList") lots d else d

-- its units have a lot
abbrev pub has_unit_lots : Data → Bool
has_unit_lots d = not (length (unit_lots d) == 0)
