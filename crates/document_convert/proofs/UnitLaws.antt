-- Each unit of a named lot has an event that leads to it, and nothing is invented.
use Rattle.std.proofs.Common.{◌≡◌, ◌⊎◌, ◌+◌, ◌≤◌, ℕ, List, [], ◌∷◌, ◌++◌, Contains, Bool, true, false, Option, Some, None, Ok, codes, length, inl, inr, refl, sym, ap, ◌∙◌, subst, arith}
use Rattle.std.specs.Prelude.{is_some, option_and_then, unwrap_or}
use Rattle.std.specs.List.{flat_map, list_any}
use Rattle.std.specs.Fmt.{decimal}
use Rattle.std.proofs.lemmas.Bool.{le-leb}
use Rattle.std.proofs.lemmas.List.{append-nil}
use Rattle.std.proofs.lemmas.Option.{same_Some}
use Rattle.std.proofs.lemmas.Slice.Eq.{bytes_eq-Decides}
use Rattle.serde_json.specs.Data.{Data, null, boolean, number, string, array, object, Items, no_items, item, Members, no_members, member}
use Rattle.serde_json.specs.Find.{as_str, get}
use Rattle.serde_json.specs.View.{items_of}
use Rattle.event_json.specs.Checks.{type_named, type_text}
use Rattle.event_json.specs.Documents.{event_list, listed}
use Rattle.event_json.specs.Members.{member_named, present}
use Rattle.event_json.specs.Untraced.{in_order, is_text}
use Rattle.document_convert.specs.Documents.{document_around}
use Rattle.item_spellings.specs.Lots.{lot_text}
use Rattle.document_convert.specs.LotEvents.{array_of, has_unit_lots, lot_event, lot_events, lot_events_from, lot_id, short, spellings, transformation, with_found, with_id, with_own}
use Rattle.document_convert.specs.LotLaws.{Names}
use Rattle.document_convert.specs.Lotted.{converted_event, document_with_lots, events_with_lots, has_lots, lotted}
use Rattle.document_convert.specs.Quantities.{and_texts, list_of}
use Rattle.document_convert.specs.Respelled.{respelled_text}
use Rattle.document_convert.specs.UnitLaws.{AreWithDerived, HasFewLots, HasUnits, IsDerived, IsUnitOf, LeadsFrom, LotsAreMade, LotsAreNumbered, NamesLotOfUnits, NothingIsInvented, UnitsAreLed, WithoutLotsAsBefore}
use Rattle.document_convert.specs.UnitLots.{lot_with, texts_with, unit_lots, units_of}
use Rattle.document_convert.proofs.Around.{around_list, around_type}
use Rattle.document_convert.proofs.Bare.{event_type, list_of_itself}
use Rattle.document_convert.proofs.Beside.{array_there, same_member, same_type}
use Rattle.document_convert.proofs.Has.{cases, has_flat_map, has_map, here, none_has, there}
use Rattle.document_convert.proofs.Lists.{items_back, listed_back}
use Rattle.document_convert.proofs.LostLaws.{outputs, type_stays}
use Rattle.document_convert.proofs.MadeLots.{event_behind, event_others, is_made, its_type, no_unit_lots, none_behind, other_type, out_items, spelling, texts_behind}
use Rattle.document_convert.proofs.Members.{other_member}
use Rattle.document_convert.proofs.MovedLaws.{in_and_texts, set_there}
use Rattle.document_convert.proofs.NoLots.{alone_list, both_none, its_list, without_lots_stays}
use Rattle.document_convert.proofs.Settled.{is_document}
use Rattle.document_convert.proofs.UnitLemmas.{all_its, among_its, lot_is, lot_there, none_of_many}
use Rattle.document_convert.proofs.Without.{differ, skips}

-- ---- the members of the event of a lot

own_others : (name other : List ℕ) (d e : Data) → (other ≡ name → ⊥) → get other (with_own name d e) ≡ get other e
own_others name other d e apart = by (member_named name d)
  where
    by : (o : Option Data) → get other (with_found name o e) ≡ get other e
    by None = refl
    by (Some value) = other_member other name value e apart

id_others : (other : List ℕ) (o : Option (List ℕ)) (e : Data) → (other ≡ codes "eventID" → ⊥) → get other (with_id o e) ≡ get other e
id_others other None e apart = refl
id_others other (Some id) e apart = other_member other (codes "eventID") (string id) e apart

-- what is found isn't null
still_present : (w v : Data) → present w ≡ Some v → present v ≡ Some v
still_present null v is = cc
still_present (boolean b) v is = subst (λ x. present x ≡ Some x) (same_Some _ _ is) refl
still_present (number n) v is = subst (λ x. present x ≡ Some x) (same_Some _ _ is) refl
still_present (string s) v is = subst (λ x. present x ≡ Some x) (same_Some _ _ is) refl
still_present (array ds) v is = subst (λ x. present x ≡ Some x) (same_Some _ _ is) refl
still_present (object ms) v is = subst (λ x. present x ≡ Some x) (same_Some _ _ is) refl

found_present : (name : List ℕ) (d v : Data) → member_named name d ≡ Some v → present v ≡ Some v
found_present name d v is = by (get name d) is
  where
    by : (o : Option Data) → option_and_then present o ≡ Some v → present v ≡ Some v
    by None e = cc
    by (Some w) e = still_present w v e

own_there : (name q : List ℕ) (d e found : Data) → member_named q e ≡ Some found → member_named name e ≡ None → member_named name (with_own name d e) ≡ member_named name d
own_there name q d e found is none = by (member_named name d) refl
  where
    by : (o : Option Data) → member_named name d ≡ o → member_named name (with_found name o e) ≡ o
    by None m = none
    by (Some v) m = ap (option_and_then present) (set_there name q v e found is) ∙ found_present name d v m

abbrev at_time : List ℕ
at_time = codes "eventTime"

abbrev at_offset : List ℕ
at_offset = codes "eventTimeZoneOffset"

times_apart : at_time ≡ at_offset → ⊥
times_apart e = let n : 9 ≡ 19 = ap length e in omega (arith, n)

abbrev timed : Data → List ℕ → List (List ℕ) → Data
timed d lot units = with_own at_time d (transformation lot units)

abbrev offset_too : Data → List ℕ → List (List ℕ) → Data
offset_too d lot units = with_own at_offset d (timed d lot units)

-- a lot leads to its units, and says nothing else
nothing_beside : (name lot : List ℕ) (units : List (List ℕ)) → (name ≡ codes "type" → ⊥) → (name ≡ codes "inputEPCList" → ⊥) → (name ≡ codes "outputEPCList" → ⊥)
    → get name (transformation lot units) ≡ None
nothing_beside name lot units a b c =
    let typed = member (codes "type") (string (codes "TransformationEvent")) no_members in
    let made = member (codes "outputEPCList") (array_of units) typed in
    skips name (codes "inputEPCList") (array_of (lot ∷ [])) made (differ name (codes "inputEPCList") b)
    ∙ skips name (codes "outputEPCList") (array_of units) typed (differ name (codes "outputEPCList") c)
    ∙ skips name (codes "type") (string (codes "TransformationEvent")) no_members (differ name (codes "type") a)

pub leads_from : (d : Data) (n : ℕ) (lot : List ℕ) (units : List (List ℕ)) → LeadsFrom lot units d (lot_event d n (lot, units))
leads_from d n lot units = record {
  type = same_type first whole (all (codes "type") (λ e. cc) (λ e. cc) (λ e. cc)) ∙ refl;
  input = same_member (codes "inputEPCList") first whole (all (codes "inputEPCList") (λ e. cc) (λ e. cc) (λ e. cc)) ∙ refl;
  outputs = same_member (codes "outputEPCList") first whole (all (codes "outputEPCList")
      (λ e. let n : 13 ≡ 7 = ap length e in omega (arith, n))
      (λ e. let n : 13 ≡ 19 = ap length e in omega (arith, n))
      (λ e. let n : 13 ≡ 9 = ap length e in omega (arith, n))) ∙ refl;
  time =
      same_member at_time (timed d lot units) whole (id_others at_time (lot_id d n) (offset_too d lot units) (λ e. cc) ∙ own_others at_offset at_time d (timed d lot units) times_apart)
      ∙ own_there at_time (codes "type") d first (string (codes "TransformationEvent")) refl refl;
  offset =
      same_member at_offset (offset_too d lot units) whole (id_others at_offset (lot_id d n) (offset_too d lot units) (λ e. cc))
      ∙ own_there at_offset (codes "type") d (timed d lot units) (string (codes "TransformationEvent"))
      (same_member (codes "type") first (timed d lot units) (own_others at_time (codes "type") d first (λ e. cc)) ∙ refl)
      (same_member at_offset first (timed d lot units) (own_others at_time at_offset d first (λ e. times_apart (sym e))) ∙ refl);
  nothing_else = λ name type ins outs id time offset. all name id offset time ∙ nothing_beside name lot units type ins outs;
}
  where
    first : Data
    first = transformation lot units

    whole : Data
    whole = lot_event d n (lot, units)

    all : (name : List ℕ) → (name ≡ codes "eventID" → ⊥) → (name ≡ at_offset → ⊥) → (name ≡ at_time → ⊥) → get name whole ≡ get name first
    all name a b c = id_others name (lot_id d n) (offset_too d lot units) a ∙ own_others at_offset name d (timed d lot units) b ∙ own_others at_time name d first c

-- ---- the events of the lots

abbrev Lot : Type 0
Lot = List ℕ × List (List ℕ)

has_event : (d : Data) (n : ℕ) (lots : List Lot) (l : Lot) → Contains lots l → (k : ℕ) × Contains (lot_events_from d n lots) (lot_event d k l)
has_event d n [] l has = absurd (none_has l has)
has_event d n (m ∷ lots) l has = by (cases m l lots has) (λ later. has_event d (n + 1) lots l later)
  where
    more : (k : ℕ) × Contains (lot_events_from d (n + 1) lots) (lot_event d k l) → (k : ℕ) × Contains (lot_events_from d n (m ∷ lots)) (lot_event d k l)
    more (k, later) = (k, there (lot_event d n m) (lot_event d k l) (lot_events_from d (n + 1) lots) later)

    by : (m ≡ l) ⊎ Contains lots l → (Contains lots l → (k : ℕ) × Contains (lot_events_from d (n + 1) lots) (lot_event d k l))
        → (k : ℕ) × Contains (lot_events_from d n (m ∷ lots)) (lot_event d k l)
    by (inl same) below = (n, subst (λ x. Contains (lot_event d n m ∷ lot_events_from d (n + 1) lots) (lot_event d n x)) same (here (lot_event d n m) (lot_events_from d (n + 1) lots)))
    by (inr later) below = more (below later)

abbrev IsOfLot : Data → List Lot → Data → Type 0
IsOfLot d lots e = (k : ℕ) × (l : Lot) × Contains lots l × (lot_event d k l ≡ e)

from_event : (d : Data) (n : ℕ) (lots : List Lot) (e : Data) → Contains (lot_events_from d n lots) e → IsOfLot d lots e
from_event d n [] e has = absurd (none_has e has)
from_event d n (m ∷ lots) e has = by (cases (lot_event d n m) e (lot_events_from d (n + 1) lots) has) (λ later. from_event d (n + 1) lots e later)
  where
    more : IsOfLot d lots e → IsOfLot d (m ∷ lots) e
    more (k, l, later, is) = (k, l, there m l lots later, is)

    by : (lot_event d n m ≡ e) ⊎ Contains (lot_events_from d (n + 1) lots) e → (Contains (lot_events_from d (n + 1) lots) e → IsOfLot d lots e) → IsOfLot d (m ∷ lots) e
    by (inl same) below = (n, m, here m lots, same)
    by (inr later) below = more (below later)

pub is_derived : (d e : Data) → Contains (lot_events d) e → IsDerived d e
is_derived d e has =
    let (k, l, its, same) = from_event d 1 (unit_lots d) e has in
    let lot = lot_is d l its in
    let units = texts_with (units_of d) lot.gtin in
    let whole : lot_event d k (lot_with (units_of d) lot.lot lot.gtin) ≡ e = ap (lot_event d k) (sym lot.is) ∙ same in
    record {
      number = lot.lot;
      gtin = lot.gtin;
      units = units;
      named = lot.names;
      leads = subst (LeadsFrom (lot_text lot.gtin lot.lot) units d) whole (leads_from d k (lot_text lot.gtin lot.lot) units);
      are_units = λ text there. all_its d text lot.gtin there;
    }

-- ---- the events of a document

pub listed_object : (d : Data) (items : Items) → listed d ≡ Some items → (ms : Members) × (d ≡ object ms)
unfolding listed
listed_object null items is = cc
listed_object (boolean b) items is = cc
listed_object (number n) items is = cc
listed_object (string s) items is = cc
listed_object (array ds) items is = cc
listed_object (object ms) items is = (ms, refl)

pub around_events : (ms : Members) (es : List Data) → event_list (document_around (object ms) es) ≡ Ok (items_of es)
unfolding event_list
around_events ms es = rw (around_type ms es, around_list ms es) refl

same_where_none : (es : List Data) → list_any has_lots es ≡ false → flat_map events_with_lots es ≡ es
same_where_none [] none = refl
same_where_none (e ∷ es) none =
    let parts = both_none (has_lots e) (list_any has_lots es) none in
    ap (λ l. l ++ flat_map events_with_lots es) (without_lots_stays e parts.0) ∙ ap (λ l. e ∷ l) (same_where_none es parts.1)

abbrev AreFound : Data → Items → Type 0
AreFound d events = event_list (document_with_lots d) ≡ Ok (items_of (flat_map events_with_lots (in_order events)))

found_in : (d : Data) (events : Items) → event_list d ≡ Ok events → is_text is_document (type_text d) ≡ true → AreFound d events
unfolding document_with_lots
found_in d events is named = by (list_any has_lots (in_order events)) refl
  where
    list : listed d ≡ Some events
    list = its_list d events is named

    by : (b : Bool) → list_any has_lots (in_order events) ≡ b → AreFound d events
    by true some =
        let (ms, same) = listed_object d events list in
        rw (named, list, some) (ap (λ v. event_list (document_around v (flat_map events_with_lots (in_order events)))) same ∙ around_events ms (flat_map events_with_lots (in_order events)))
    by false none = rw (named, list, none) (is ∙ ap Ok (sym (ap items_of (same_where_none (in_order events) none) ∙ items_back events)))

-- a bare event is named by its type
pub alone_type : (d : Data) (items : Items) → event_list d ≡ Ok items → is_text is_document (type_text d) ≡ false → (text : List ℕ) × (type_text d ≡ Some text) × (is_some (type_named text) ≡ true)
unfolding event_list
alone_type d items is other = of_type (type_text d) refl other
  where
    of_name : (text : List ℕ) (b : Bool) → type_text d ≡ Some text → is_document text ≡ false → is_some (type_named text) ≡ b
        → (text : List ℕ) × (type_text d ≡ Some text) × (is_some (type_named text) ≡ true)
    of_name text true s o n = (text, s, n)
    of_name text false s o n = let no = rw (s, o, n) at is in cc

    of_type : (o : Option (List ℕ)) → type_text d ≡ o → is_text is_document o ≡ false → (text : List ℕ) × (type_text d ≡ Some text) × (is_some (type_named text) ≡ true)
    of_type None s o = let no = rw s at is in cc
    of_type (Some text) s o = of_name text (is_some (type_named text)) s o refl

found_alone : (d : Data) (events : Items) → event_list d ≡ Ok events → is_text is_document (type_text d) ≡ false → AreFound d events
unfolding document_with_lots
found_alone d events is other = by (has_unit_lots d) refl
  where
    one : events ≡ item d no_items
    one = alone_list d events is other

    all : flat_map events_with_lots (in_order events) ≡ events_with_lots d
    all = ap (λ (i : Items). flat_map events_with_lots (in_order i)) one ∙ append-nil (events_with_lots d)

    by : (b : Bool) → has_unit_lots d ≡ b → AreFound d events
    by true some = rw (other, some) (around_events no_members (events_with_lots d) ∙ ap (λ es. Ok (items_of es)) (sym all))
    by false none =
        let (text, type, named) = alone_type d events is other in
        let behind = none_behind d (no_unit_lots d none) in
        rw (other, none) (list_of_itself (lotted d) text (type_stays d ∙ type) (event_type text named) ∙ ap (λ es. Ok (items_of es)) (sym (all ∙ behind)))

pub are_found : (d : Data) (events : Items) → event_list d ≡ Ok events → AreFound d events
are_found d events is = by (is_text is_document (type_text d)) refl
  where
    by : (b : Bool) → is_text is_document (type_text d) ≡ b → AreFound d events
    by true named = found_in d events is named
    by false other = found_alone d events is other

-- ---- the laws

pub units_are_led : UnitsAreLed
units_are_led d e events lot text gtin is has few names unit =
    let all = flat_map events_with_lots (in_order events) in
    let l = lot_with (units_of e) lot gtin in
    let (k, its) = has_event e 1 (unit_lots e) l (lot_there e lot text gtin few names unit) in
    let led = lot_event e k l in
    let found : Contains all led = has_flat_map events_with_lots (in_order events) e led has (there (converted_event e) led (lot_events e) its) in (
      items_of all,
      are_found d events is,
      led,
      subst (λ ds. Contains ds led) (sym (listed_back all)) found,
      texts_with (units_of e) gtin,
      leads_from e k (lot_text gtin lot) (texts_with (units_of e) gtin),
      among_its e text gtin unit,
    )

with_derived : (es : List Data) → AreWithDerived es (flat_map events_with_lots es)
with_derived [] = refl
with_derived (e ∷ es) = (lot_events e, flat_map events_with_lots es, refl, is_derived e, with_derived es)

pub nothing_is_invented : NothingIsInvented
nothing_is_invented d events is =
    let all = flat_map events_with_lots (in_order events) in
    (items_of all, are_found d events is, subst (AreWithDerived (in_order events)) (sym (listed_back all)) (with_derived (in_order events)))

other_events : (d : Data) → (type_text d ≡ Some (codes "TransformationEvent") → ⊥) → converted_event d ≡ lotted d
other_events d other = by (type_text (lotted d)) refl
  where
    of_text : (text : List ℕ) (b : Bool) → type_text (lotted d) ≡ Some text → is_made text ≡ b → converted_event d ≡ lotted d
    of_text text true t m = absurd (other (sym (type_stays d) ∙ t ∙ ap Some ((bytes_eq-Decides text (codes "TransformationEvent")).0 m)))
    of_text text false t m = other_type d (ap (is_text is_made) t ∙ m)

    by : (o : Option (List ℕ)) → type_text (lotted d) ≡ o → converted_event d ≡ lotted d
    by None t = other_type d (ap (is_text is_made) t)
    by (Some text) t = of_text text (is_made text) t refl

-- what is made stands behind what was there
made_with : (d : Data) (text lot : List ℕ) → type_text d ≡ Some (codes "TransformationEvent") → Contains (spellings (unit_lots d)) lot → Names out_items text (lotted d)
    → Names out_items lot (converted_event d)
made_with d text lot type among (list, its, has) =
    let known = array_there (member_named out_items (lotted d)) list text its has in
    let made : is_text is_made (type_text (lotted d)) ≡ true = ap (is_text is_made) (type_stays d ∙ type) in
    let lots = spellings (unit_lots d) in (
      and_texts list lots,
      ap (λ v. list_of (member_named out_items v)) (its_type d made) ∙ texts_behind out_items lots (lotted d) (array list) list known its,
      in_and_texts list lots lot among,
    )

lot_among : (d : Data) (numbered text gtin : List ℕ) → HasFewLots d → NamesLotOfUnits numbered d → IsUnitOf text gtin d → Contains (spellings (unit_lots d)) (lot_text gtin numbered)
lot_among d numbered text gtin few names unit = has_map spelling (unit_lots d) (lot_with (units_of d) numbered gtin) (lot_there d numbered text gtin few names unit)

-- the units of a transformation are those that it makes
unit_made : (d : Data) (text items : List ℕ) → type_text d ≡ Some (codes "TransformationEvent") → HasUnits items d → Names items text d → Names out_items text d
unit_made d text items type (inl (seen, is)) named =
    let n : 11 ≡ 19 = ap (λ (o : Option (List ℕ)). length (unwrap_or o [])) (sym seen ∙ type) in
    absurd (omega (arith, n))
unit_made d text items type (inr (made, is)) named = subst (λ name. Names name text d) is named

lot_is_made : (d : Data) (numbered text gtin : List ℕ) → type_text d ≡ Some (codes "TransformationEvent") → HasFewLots d → NamesLotOfUnits numbered d → IsUnitOf text gtin d
    → Names out_items (lot_text gtin numbered) (converted_event d)
lot_is_made d numbered text gtin type few names unit =
    made_with d (respelled_text text) (lot_text gtin numbered) type (lot_among d numbered text gtin few names unit)
    ((outputs d type).0 text (unit_made d text unit.items type unit.role unit.named))

pub lots_are_made : LotsAreMade
lots_are_made = record { same = other_events; others = event_others; behind = event_behind; made = lot_is_made }

-- ---- the numbers of lots

type_there : (d : Data) (lot : List ℕ) (units : List (List ℕ)) → member_named (codes "type") (offset_too d lot units) ≡ Some (string (codes "TransformationEvent"))
type_there d lot units =
    same_member (codes "type") (transformation lot units) (offset_too d lot units)
    (own_others at_offset (codes "type") d (timed d lot units) (λ e. cc) ∙ own_others at_time (codes "type") d (transformation lot units) (λ e. cc))
    ∙ refl

id_set : (d : Data) (n : ℕ) (l : Lot) (text : List ℕ) → lot_id d n ≡ Some text → member_named (codes "eventID") (lot_event d n l) ≡ Some (string text)
id_set d n (lot, units) text is =
    ap (λ (o : Option (List ℕ)). member_named (codes "eventID") (with_id o (offset_too d lot units))) is
    ∙ ap (option_and_then present)
    (set_there (codes "eventID") (codes "type") (string text) (offset_too d lot units) (string (codes "TransformationEvent")) (type_there d lot units))

id_apart : (k : ℕ) (name : List ℕ) → length name ≡ k → (7 ≡ k → ⊥) → codes "eventID" ≡ name → ⊥
id_apart k name long other e = let n : 7 ≡ length name = ap length e in other (n ∙ long)

no_id : (d : Data) (n : ℕ) (l : Lot) → lot_id d n ≡ None → member_named (codes "eventID") (lot_event d n l) ≡ None
no_id d n (lot, units) is =
    ap (λ (o : Option (List ℕ)). member_named (codes "eventID") (with_id o (offset_too d lot units))) is
    ∙ same_member (codes "eventID") (transformation lot units) (offset_too d lot units)
    (own_others at_offset (codes "eventID") d (timed d lot units) (id_apart 19 at_offset refl (λ e. omega (arith, e)))
    ∙ own_others at_time (codes "eventID") d (transformation lot units) (id_apart 9 at_time refl (λ e. omega (arith, e))))
    ∙ refl

abbrev with_number : List ℕ → ℕ → List ℕ
with_number id n = id ++ (codes "#lot" ++ decimal n)

short_enough : (text : List ℕ) → length text ≤ 512 → short text ≡ Some text
short_enough text few = rw (le-leb (length text) 512 few) refl

its_id : (d : Data) (n : ℕ) (id : List ℕ) → member_named (codes "eventID") d ≡ Some (string id) → length (with_number id n) ≤ 512 → lot_id d n ≡ Some (with_number id n)
its_id d n id is few =
    ap (λ (o : Option Data). option_and_then (λ i. short (with_number i n)) (option_and_then as_str o)) is ∙ short_enough (with_number id n) few

abbrev IsNumbered : Data → ℕ → Data → Type 0
IsNumbered d n e = (l : Lot) × (lot_event d n l ≡ e)

at_number : (d e : Data) (n : ℕ) (lots : List Lot) (before behind : List Data) → lot_events_from d n lots ≡ before ++ e ∷ behind → IsNumbered d (n + length before) e
at_number d e n [] [] behind is = cc
at_number d e n [] (b ∷ bs) behind is = cc
at_number d e n (m ∷ lots) [] behind is =
    let same : lot_event d n m ≡ e = cc in
    let here_it : n + 0 ≡ n = omega arith in
    (m, ap (λ k. lot_event d k m) here_it ∙ same)
at_number d e n (m ∷ lots) (b ∷ bs) behind is =
    let rest : lot_events_from d (n + 1) lots ≡ bs ++ e ∷ behind = cc in
    let later : (n + 1) + length bs ≡ n + length (b ∷ bs) = omega arith in
    subst (λ k. IsNumbered d k e) later (at_number d e (n + 1) lots bs behind rest)

numbered : (d e : Data) (id : List ℕ) (before behind : List Data) → member_named (codes "eventID") d ≡ Some (string id) → lot_events d ≡ before ++ e ∷ behind
    → length (with_number id (1 + length before)) ≤ 512 → member_named (codes "eventID") e ≡ Some (string (with_number id (1 + length before)))
numbered d e id before behind is its few =
    let (l, same) = at_number d e 1 (unit_lots d) before behind its in
    ap (member_named (codes "eventID")) (sym same) ∙ id_set d (1 + length before) l (with_number id (1 + length before)) (its_id d (1 + length before) id is few)

without_id : (d e : Data) → member_named (codes "eventID") d ≡ None → Contains (lot_events d) e → member_named (codes "eventID") e ≡ None
without_id d e is has =
    let (k, l, its, same) = from_event d 1 (unit_lots d) e has in
    let none : lot_id d k ≡ None = ap (λ (o : Option Data). option_and_then (λ i. short (with_number i k)) (option_and_then as_str o)) is in
    ap (member_named (codes "eventID")) (sym same) ∙ no_id d k l none

pub lots_are_numbered : LotsAreNumbered
lots_are_numbered = record { numbered = numbered; without = without_id }

-- ---- without such lots

without : (d : Data) → ((l : Lot) → Contains (unit_lots d) l → ⊥) → events_with_lots d ≡ lotted d ∷ []
without d none = none_behind d (by (unit_lots d) refl)
  where
    by : (ls : List Lot) → unit_lots d ≡ ls → ls ≡ []
    by [] e = refl
    by (l ∷ ls) e = absurd (none l (subst (λ xs. Contains xs l) (sym e) (here l ls)))

no_lot : (d : Data) → ((lot : List ℕ) → NamesLotOfUnits lot d → ⊥) → events_with_lots d ≡ lotted d ∷ []
no_lot d none = without d (λ l has. let lot = lot_is d l has in none lot.lot lot.names)

no_unit : (d : Data) → ((text gtin : List ℕ) → IsUnitOf text gtin d → ⊥) → events_with_lots d ≡ lotted d ∷ []
no_unit d none = without d (λ l has. let lot = lot_is d l has in none lot.text lot.gtin lot.unit)

pub without_lots_as_before : WithoutLotsAsBefore
without_lots_as_before = record { no_lot = no_lot; no_unit = no_unit; too_many = λ d many. none_behind d (none_of_many d many) }
