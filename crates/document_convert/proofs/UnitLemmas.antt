-- The lots that an event names, its units, and the lots of these.
use Rattle.std.proofs.Common.{◌≡◌, ◌⊎◌, ℕ, List, [], ◌++◌, Contains, Bool, true, false, Option, Some, None, Result, Ok, Err, bytes_eq, codes, map, take, inl, inr, refl, sym, ap, ◌∙◌, subst, if◌then◌else◌}
use Rattle.std.specs.Prelude.{◌*◌, filter, length, option_and_then, option_map, unwrap_or}
use Rattle.std.specs.List.{filter_map, flat_map}
use Rattle.std.proofs.lemmas.List.Elements.{Contains-append_cases, Contains-append_left, Contains-append_right}
use Rattle.std.proofs.lemmas.Bool.{and_parts, le-leb, leb-true}
use Rattle.std.proofs.lemmas.Option.{same_Some}
use Rattle.std.proofs.lemmas.Slice.Eq.{bytes_eq-Decides}
use Rattle.serde_json.specs.Data.{Data, null, boolean, number, string, array, object, Items}
use Rattle.serde_json.specs.Find.{as_array, as_str}
use Rattle.epc_core.specs.declared.items.EpcFault.{EpcFault}
use Rattle.epc_core.specs.Items.{behind, sgtin_key}
use Rattle.epc_core.specs.Numbers.{IsChecked}
use Rattle.epc_core.specs.Reading.{reading}
use Rattle.epc_core.specs.Serials.{is_serial}
use Rattle.epc_core.specs.Spellings.{Spells}
use Rattle.epc_core.proofs.Cuts.{behind_some}
use Rattle.epc_core.proofs.Spelled.{serial_from, serial_to}
use Rattle.epc_core.proofs.Told.{reading_from, reading_to}
use Rattle.epc_core.proofs.Words.{sgtin_from_key}
use Rattle.event_json.specs.Checks.{type_text}
use Rattle.event_json.specs.Members.{member_named}
use Rattle.event_json.specs.Untraced.{in_order}
use Rattle.document_convert.specs.Quantities.{list_of}
use Rattle.document_convert.specs.LotLaws.{Names}
use Rattle.document_convert.specs.UnitLots.{gtin_of, gtin_of_key, gtin_read, gtins_of, has_few_lots, lot_with, lots_named, lots_numbered, named_by, named_in, numbers_named, texts_in, texts_of, texts_with, unit_in, unit_lots, units_at, units_by, units_of}
use Rattle.document_convert.specs.UnitLaws.{HasFewLots, HasUnits, IsLotName, IsUnitOf, NamesLotOfUnits, Tells}
use Rattle.document_convert.proofs.Beside.{array_there}
use Rattle.document_convert.proofs.Has.{from_distinct, from_filter, from_filter_map, from_flat_map, from_map, has_distinct, has_filter, has_filter_map, has_flat_map, has_map, here, none_has, cases}
use Rattle.document_convert.proofs.LotLemmas.{gtin_of_item}

same_bytes : (text : List ℕ) → bytes_eq text text ≡ true
same_bytes text = (bytes_eq-Decides text text).1 refl

-- ---- the GTIN of a unit

pub gtin_spelled : (text gtin serial : List ℕ) → IsChecked 14 gtin → Spells text (sgtin_key gtin serial) → gtin_of text ≡ Some gtin
unfolding gtin_of
gtin_spelled text gtin serial checked s = rw (reading_to text (sgtin_key gtin serial) s) (gtin_of_item gtin serial checked.counted)

pub record HasGtin (text gtin : List ℕ) : Type 0 where
  pub serial : List ℕ
  pub checked : IsChecked 14 gtin
  pub spells : Spells text (sgtin_key gtin serial)

of_key : (text key gtin : List ℕ) → Spells text key → gtin_of_key key ≡ Some gtin → HasGtin text gtin
of_key text key gtin spells is = by (behind (codes "sgtin ") key) refl is
  where
    by : (o : Option (List ℕ)) → behind (codes "sgtin ") key ≡ o → option_map (take 14) o ≡ Some gtin → HasGtin text gtin
    by None e is = cc
    by (Some rest) e is =
        let whole : key ≡ codes "sgtin " ++ rest = behind_some (codes "sgtin ") key rest e in
        let p = sgtin_from_key text rest (subst (Spells text) whole spells) in
        let same : key ≡ sgtin_key p.gtin p.serial = whole ∙ ap (λ t. codes "sgtin " ++ t) p.is in
        let gtin_is : p.gtin ≡ gtin = same_Some _ _ (sym (gtin_of_item p.gtin p.serial p.checked.counted) ∙ ap gtin_of_key (sym same) ∙ rw e (is)) in
        record { serial = p.serial; checked = subst (IsChecked 14) gtin_is p.checked; spells = subst (λ g. Spells text (sgtin_key g p.serial)) gtin_is (subst (Spells text) same spells) }

pub gtin_told : (text gtin : List ℕ) → gtin_of text ≡ Some gtin → HasGtin text gtin
unfolding gtin_of
gtin_told text gtin is = of_read (reading text) refl is
  where
    of_read : (read : Result (List ℕ) EpcFault) → reading text ≡ read → gtin_read read ≡ Some gtin → HasGtin text gtin
    of_read (Ok key) r is = of_key text key gtin (reading_from text key r) is
    of_read (Err e) r is = cc

-- ---- the lots that `ilmd` names

pub text_is : (x : Data) (text : List ℕ) → as_str x ≡ Some text → x ≡ string text
text_is null text is = cc
text_is (boolean b) text is = cc
text_is (number n) text is = cc
text_is (string s) text is = ap string (same_Some s text is)
text_is (array ds) text is = cc
text_is (object ms) text is = cc

in_texts : (list : Items) (text : List ℕ) → Contains (in_order list) (string text) → Contains (texts_in list) text
in_texts list text has = has_filter_map as_str (in_order list) (string text) text has refl

from_texts : (list : Items) (text : List ℕ) → Contains (texts_in list) text → Contains (in_order list) (string text)
from_texts list text has =
    let (x, its, is) = from_filter_map as_str (in_order list) text has in
    subst (λ v. Contains (in_order list) v) (text_is x text is) its

told_texts : (text : List ℕ) (value : Option Data) → Tells text value → Contains (texts_of value) text
told_texts text value (inl is) = subst (λ v. Contains (texts_of v) text) (sym is) (here text [])
told_texts text value (inr (list, is, has)) = subst (λ v. Contains (texts_of v) text) (sym is) (in_texts list text has)

texts_told : (text : List ℕ) (value : Option Data) → Contains (texts_of value) text → Tells text value
texts_told text None has = absurd (none_has text has)
texts_told text (Some null) has = absurd (none_has text has)
texts_told text (Some (boolean b)) has = absurd (none_has text has)
texts_told text (Some (number n)) has = absurd (none_has text has)
texts_told text (Some (string s)) has = by (cases s text [] has)
  where
    by : (s ≡ text) ⊎ Contains [] text → Tells text (Some (string s))
    by (inl same) = inl (ap (λ t. Some (string t)) same)
    by (inr none) = absurd (none_has text none)
texts_told text (Some (array ds)) has = inr (ds, refl, from_texts ds text has)
texts_told text (Some (object ms)) has = absurd (none_has text has)

has_named : (ilmd : Data) (name text : List ℕ) → IsLotName name → Contains (texts_of (member_named name ilmd)) text → Contains (named_in ilmd) text
has_named ilmd name text (inl is) has = Contains-append_left _ _ text (Contains-append_left _ _ text (subst (λ n. Contains (texts_of (member_named n ilmd)) text) is has))
has_named ilmd name text (inr (inl is)) has = Contains-append_left _ _ text (Contains-append_right (texts_of (member_named (codes "cbvmda:lotNumber") ilmd)) _ text (subst (λ n. Contains (texts_of (member_named n ilmd)) text) is has))
has_named ilmd name text (inr (inr is)) has =
    Contains-append_right (texts_of (member_named (codes "cbvmda:lotNumber") ilmd) ++ texts_of (member_named (codes "lotNumber") ilmd)) _ text
    (subst (λ n. Contains (texts_of (member_named n ilmd)) text) is has)

abbrev ByName : Data → List ℕ → Type 0
ByName ilmd text = (name : List ℕ) × IsLotName name × Contains (texts_of (member_named name ilmd)) text

from_named : (ilmd : Data) (text : List ℕ) → Contains (named_in ilmd) text → ByName ilmd text
from_named ilmd text has = by (Contains-append_cases (short ++ plain) full text has)
  where
    short : List (List ℕ)
    short = texts_of (member_named (codes "cbvmda:lotNumber") ilmd)

    plain : List (List ℕ)
    plain = texts_of (member_named (codes "lotNumber") ilmd)

    full : List (List ℕ)
    full = texts_of (member_named (codes "urn:epcglobal:cbv:mda#lotNumber") ilmd)

    of_two : Contains short text ⊎ Contains plain text → ByName ilmd text
    of_two (inl h) = (codes "cbvmda:lotNumber", inl refl, h)
    of_two (inr h) = (codes "lotNumber", inr (inl refl), h)

    by : Contains (short ++ plain) text ⊎ Contains full text → ByName ilmd text
    by (inl h) = of_two (Contains-append_cases short plain text h)
    by (inr h) = (codes "urn:epcglobal:cbv:mda#lotNumber", inr (inr refl), h)

pub is_named : (lot : List ℕ) (d : Data) → NamesLotOfUnits lot d → Contains (lots_named d) lot
unfolding numbers_named
is_named lot d names =
    let told = has_named names.ilmd names.name lot names.is_name (told_texts lot (member_named names.name names.ilmd) names.told) in
    let there : Contains (named_by (member_named (codes "ilmd") d)) lot = subst (λ o. Contains (named_by o) lot) (sym names.there) told in
    has_distinct [] (filter is_serial (named_by (member_named (codes "ilmd") d))) lot (inr (has_filter is_serial _ lot there (serial_to lot names.allowed)))

pub names_it : (lot : List ℕ) (d : Data) → Contains (lots_named d) lot → NamesLotOfUnits lot d
unfolding numbers_named
names_it lot d has = by (from_distinct [] (filter is_serial (named_by (member_named (codes "ilmd") d))) lot has)
  where
    of_ilmd : (o : Option Data) → member_named (codes "ilmd") d ≡ o → is_serial lot ≡ true → Contains (named_by o) lot → NamesLotOfUnits lot d
    of_ilmd None m s h = absurd (none_has lot h)
    of_ilmd (Some ilmd) m s h =
        let (name, is_name, told) = from_named ilmd lot h in
        record { ilmd = ilmd; there = m; name = name; is_name = is_name; told = texts_told lot (member_named name ilmd) told; allowed = serial_from lot s }

    by : Contains [] lot ⊎ Contains (filter is_serial (named_by (member_named (codes "ilmd") d))) lot → NamesLotOfUnits lot d
    by (inl h) = absurd (none_has lot h)
    by (inr h) =
        let (named, s) = from_filter is_serial (named_by (member_named (codes "ilmd") d)) lot h in
        of_ilmd (member_named (codes "ilmd") d) refl s named

-- ---- the units of an event

array_is : (v : Data) (list : Items) → as_array v ≡ Some list → v ≡ array list
array_is null list is = cc
array_is (boolean b) list is = cc
array_is (number n) list is = cc
array_is (string s) list is = cc
array_is (array ds) list is = ap array (same_Some ds list is)
array_is (object ms) list is = cc

at_list : (items : List ℕ) (d : Data) (text gtin : List ℕ) → Names items text d → gtin_of text ≡ Some gtin → Contains (units_at items d) (gtin, text)
at_list items d text gtin (list, its, has) is =
    let there : member_named items d ≡ Some (array list) = array_there (member_named items d) list text its has in
    subst (λ o. Contains (filter_map unit_in (unwrap_or (option_map texts_in (option_and_then as_array o)) [])) (gtin, text)) (sym there)
    (has_filter_map unit_in (texts_in list) text (gtin, text) (in_texts list text has) (ap (option_map (λ g. (g, text))) is))

pub is_unit : (text gtin : List ℕ) (d : Data) → IsUnitOf text gtin d → Contains (units_of d) (gtin, text)
is_unit text gtin d unit = by unit.role
  where
    its : gtin_of text ≡ Some gtin
    its = gtin_spelled text gtin unit.serial unit.checked unit.spells

    by : HasUnits unit.items d → Contains (units_of d) (gtin, text)
    by (inl (type, is)) =
        subst (λ o. Contains (unwrap_or (option_map (units_by d) o) []) (gtin, text)) (sym type)
        (subst (λ name. Contains (units_at name d) (gtin, text)) is (at_list unit.items d text gtin unit.named its))
    by (inr (type, is)) =
        subst (λ o. Contains (unwrap_or (option_map (units_by d) o) []) (gtin, text)) (sym type)
        (subst (λ name. Contains (units_at name d) (gtin, text)) is (at_list unit.items d text gtin unit.named its))

-- a unit that is found is one
abbrev IsOne : Data → List ℕ × List ℕ → Type 0
IsOne d unit = IsUnitOf unit.1 unit.0 d

found_at : (items : List ℕ) (d : Data) (unit : List ℕ × List ℕ) → HasUnits items d → Contains (units_at items d) unit → IsOne d unit
found_at items d unit role has = of_value (member_named items d) refl has
  where
    of_gtin : (list : Items) (text : List ℕ) (o : Option (List ℕ)) → member_named items d ≡ Some (array list) → Contains (texts_in list) text → gtin_of text ≡ o
        → option_map (λ g. (g, text)) o ≡ Some unit → IsOne d unit
    of_gtin list text None m h g is = cc
    of_gtin list text (Some gtin) m h g is =
        let its = gtin_told text gtin g in
        subst (IsOne d) (same_Some _ _ is)
        (record { items = items; role = role; named = (list, ap (λ (o : Option Data). list_of o) m, from_texts list text h); serial = its.serial; checked = its.checked; spells = its.spells })

    of_array : (v : Data) (o : Option Items) → member_named items d ≡ Some v → as_array v ≡ o → Contains (filter_map unit_in (unwrap_or (option_map texts_in o) [])) unit → IsOne d unit
    of_array v None m a h = absurd (none_has unit h)
    of_array v (Some list) m a h =
        let (text, its, is) = from_filter_map unit_in (texts_in list) unit h in
        of_gtin list text (gtin_of text) (m ∙ ap Some (array_is v list a)) its refl is

    of_value : (o : Option Data) → member_named items d ≡ o → Contains (filter_map unit_in (unwrap_or (option_map texts_in (option_and_then as_array o)) [])) unit → IsOne d unit
    of_value None m h = absurd (none_has unit h)
    of_value (Some v) m h = of_array v (as_array v) m refl h

pub unit_is : (d : Data) (unit : List ℕ × List ℕ) → Contains (units_of d) unit → IsUnitOf unit.1 unit.0 d
unit_is d unit has = of_type (type_text d) refl has
  where
    of_made : (type : List ℕ) (b : Bool) → type_text d ≡ Some type → bytes_eq type (codes "TransformationEvent") ≡ b
        → Contains (if b then units_at (codes "outputEPCList") d else []) unit → IsOne d unit
    of_made type true t e h = found_at (codes "outputEPCList") d unit (inr (t ∙ ap Some ((bytes_eq-Decides type (codes "TransformationEvent")).0 e), refl)) h
    of_made type false t e h = absurd (none_has unit h)

    of_object : (type : List ℕ) (b : Bool) → type_text d ≡ Some type → bytes_eq type (codes "ObjectEvent") ≡ b
        → Contains (if b then units_at (codes "epcList") d else (if bytes_eq type (codes "TransformationEvent") then units_at (codes "outputEPCList") d else [])) unit → IsOne d unit
    of_object type true t e h = found_at (codes "epcList") d unit (inl (t ∙ ap Some ((bytes_eq-Decides type (codes "ObjectEvent")).0 e), refl)) h
    of_object type false t e h = of_made type (bytes_eq type (codes "TransformationEvent")) t refl h

    of_type : (o : Option (List ℕ)) → type_text d ≡ o → Contains (unwrap_or (option_map (units_by d) o) []) unit → IsOne d unit
    of_type None t h = absurd (none_has unit h)
    of_type (Some type) t h = of_object type (bytes_eq type (codes "ObjectEvent")) t refl h

-- ---- the lots of its units

abbrev gtin_in : List ℕ × List ℕ → List ℕ
gtin_in unit = unit.0

abbrev text_in : List ℕ × List ℕ → List ℕ
text_in unit = unit.1

pub among_its : (d : Data) (text gtin : List ℕ) → IsUnitOf text gtin d → Contains (texts_with (units_of d) gtin) text
among_its d text gtin unit =
    has_map text_in (filter (λ (u : List ℕ × List ℕ). bytes_eq u.0 gtin) (units_of d)) (gtin, text)
    (has_filter (λ (u : List ℕ × List ℕ). bytes_eq u.0 gtin) (units_of d) (gtin, text) (is_unit text gtin d unit) (same_bytes gtin))

pub all_its : (d : Data) (text gtin : List ℕ) → Contains (texts_with (units_of d) gtin) text → IsUnitOf text gtin d
all_its d text gtin has =
    let (unit, its, is) = from_map text_in (filter (λ (u : List ℕ × List ℕ). bytes_eq u.0 gtin) (units_of d)) text has in
    let (found, same) = from_filter (λ (u : List ℕ × List ℕ). bytes_eq u.0 gtin) (units_of d) unit its in
    subst (λ g. IsUnitOf text g d) ((bytes_eq-Decides unit.0 gtin).0 same) (subst (λ t. IsUnitOf t unit.0 d) is (unit_is d unit found))

-- all lots of its units, where they are few
abbrev all_lots : Data → List (List ℕ × List (List ℕ))
all_lots d = flat_map (lots_numbered (units_of d)) (lots_named d)

few : (d : Data) → HasFewLots d → has_few_lots d ≡ true
few d is = rw (le-leb (length (numbers_named d)) 10 is.numbers, le-leb (length (lots_named d) * length (units_of d)) 1000 is.units) refl

is_few : (d : Data) → has_few_lots d ≡ true → HasFewLots d
is_few d is =
    let (numbers, units) = and_parts _ _ is in
    record { numbers = leb-true (length (numbers_named d)) 10 numbers; units = leb-true (length (lots_named d) * length (units_of d)) 1000 units }

pub none_of_many : (d : Data) → (HasFewLots d → ⊥) → unit_lots d ≡ []
none_of_many d many = by (has_few_lots d) refl
  where
    by : (b : Bool) → has_few_lots d ≡ b → (if b then all_lots d else []) ≡ []
    by true e = absurd (many (is_few d e))
    by false e = refl

pub lot_there : (d : Data) (lot text gtin : List ℕ) → HasFewLots d → NamesLotOfUnits lot d → IsUnitOf text gtin d → Contains (unit_lots d) (lot_with (units_of d) lot gtin)
lot_there d lot text gtin is_few names unit =
    let has : Contains (gtins_of (units_of d)) gtin =
    has_distinct [] (map gtin_in (units_of d)) gtin (inr (has_map gtin_in (units_of d) (gtin, text) (is_unit text gtin d unit))) in
    let all : Contains (all_lots d) (lot_with (units_of d) lot gtin) =
    has_flat_map (lots_numbered (units_of d)) (lots_named d) lot (lot_with (units_of d) lot gtin) (is_named lot d names)
    (has_map (lot_with (units_of d) lot) (gtins_of (units_of d)) gtin has) in
    subst (λ b. Contains (if b then all_lots d else []) (lot_with (units_of d) lot gtin)) (sym (few d is_few)) all

-- a lot of its units
pub record IsLotOfUnits (d : Data) (l : List ℕ × List (List ℕ)) : Type 0 where
  pub lot : List ℕ
  pub gtin : List ℕ
  pub text : List ℕ
  pub names : NamesLotOfUnits lot d
  pub unit : IsUnitOf text gtin d
  pub is : l ≡ lot_with (units_of d) lot gtin

pub lot_is : (d : Data) (l : List ℕ × List (List ℕ)) → Contains (unit_lots d) l → IsLotOfUnits d l
lot_is d l has = of_few (has_few_lots d) has
  where
    by : (lot gtin : List ℕ) → Contains (lots_named d) lot → lot_with (units_of d) lot gtin ≡ l → Contains [] gtin ⊎ Contains (map gtin_in (units_of d)) gtin → IsLotOfUnits d l
    by lot gtin named is (inl h) = absurd (none_has gtin h)
    by lot gtin named is (inr h) =
        let (unit, found, same) = from_map gtin_in (units_of d) gtin h in
        record { lot = lot; gtin = gtin; text = unit.1; names = names_it lot d named; unit = subst (λ g. IsUnitOf unit.1 g d) same (unit_is d unit found); is = sym is }

    of_all : Contains (all_lots d) l → IsLotOfUnits d l
    of_all has =
        let (lot, named, numbered) = from_flat_map (lots_numbered (units_of d)) (lots_named d) l has in
        let (gtin, there, is) = from_map (lot_with (units_of d) lot) (gtins_of (units_of d)) l numbered in
        by lot gtin named is (from_distinct [] (map gtin_in (units_of d)) gtin there)

    of_few : (b : Bool) → Contains (if b then all_lots d else []) l → IsLotOfUnits d l
    of_few true h = of_all h
    of_few false h = absurd (none_has l h)
