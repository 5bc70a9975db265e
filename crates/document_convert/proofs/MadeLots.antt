-- A transformation with the lots of what it makes.
use Rattle.std.proofs.Common.{◌≡◌, ℕ, suc, List, [], ◌∷◌, ◌++◌, Contains, Bool, true, false, Option, Some, None, bytes_eq, codes, length, map, refl, sym, ap, ◌∙◌, subst, arith, if◌then◌else◌}
use Rattle.std.specs.Prelude.{◌==◌, not, option_and_then, option_map, unwrap_or}
use Rattle.std.proofs.lemmas.Bool.{ne_eqb}
use Rattle.std.proofs.lemmas.List.Elements.{Contains-append_left}
use Rattle.serde_json.specs.Data.{Data, string, array, Items}
use Rattle.serde_json.specs.Find.{get}
use Rattle.event_json.specs.Checks.{type_text}
use Rattle.event_json.specs.Members.{member_named, present}
use Rattle.event_json.specs.Untraced.{in_order, is_text}
use Rattle.document_convert.specs.Types.{with_member}
use Rattle.document_convert.specs.Quantities.{and_texts, list_of}
use Rattle.document_convert.specs.LotEvents.{has_unit_lots, lot_events_from, spellings, with_made, with_texts}
use Rattle.document_convert.specs.LotLaws.{Names}
use Rattle.document_convert.specs.Lotted.{converted_event, events_with_lots, lotted}
use Rattle.document_convert.specs.UnitLaws.{AreLotsOf}
use Rattle.document_convert.specs.UnitLots.{unit_lots}
use Rattle.document_convert.proofs.Beside.{array_there}
use Rattle.document_convert.proofs.Has.{from_map, none_has}
use Rattle.document_convert.proofs.Lists.{listed_back}
use Rattle.document_convert.proofs.Members.{other_member}
use Rattle.document_convert.proofs.MovedLaws.{no_texts, set_there}
use Rattle.document_convert.proofs.UnitLemmas.{IsLotOfUnits, lot_is}

abbrev pub out_items : List ℕ
out_items = codes "outputEPCList"

abbrev pub is_made : List ℕ → Bool
is_made type = bytes_eq type (codes "TransformationEvent")

-- ---- texts behind the items of a member

texts_others : (name other : List ℕ) (texts : List (List ℕ)) (d : Data) → (other ≡ name → ⊥) → get other (with_texts name texts d) ≡ get other d
texts_others name other texts d apart = by (length texts == 0) (list_of (member_named name d))
  where
    by : (b : Bool) (o : Option Items) → get other (if b then d else unwrap_or (option_map (λ found. with_member name (array (and_texts found texts)) d) o) d) ≡ get other d
    by true o = refl
    by false None = refl
    by false (Some found) = other_member other name (array (and_texts found texts)) d apart

some_texts : (name text : List ℕ) (texts : List (List ℕ)) (d : Data)
    → with_texts name (text ∷ texts) d ≡ unwrap_or (option_map (λ found. with_member name (array (and_texts found (text ∷ texts))) d) (list_of (member_named name d))) d
some_texts name text texts d = rw (ne_eqb (suc (length texts)) 0 (λ e. absurd (omega arith))) refl

pub texts_behind : (name : List ℕ) (texts : List (List ℕ)) (d there : Data) (list : Items) → member_named name d ≡ Some there → list_of (member_named name d) ≡ Some list
    → list_of (member_named name (with_texts name texts d)) ≡ Some (and_texts list texts)
texts_behind name [] d there list is its = its ∙ ap Some (sym (no_texts list))
texts_behind name (text ∷ texts) d there list is its =
    let all = array (and_texts list (text ∷ texts)) in
    let whole : with_texts name (text ∷ texts) d ≡ with_member name all d =
    some_texts name text texts d ∙ ap (λ (o : Option Items). unwrap_or (option_map (λ found. with_member name (array (and_texts found (text ∷ texts))) d) o) d) its in
    ap (λ v. list_of (member_named name v)) whole ∙ ap (λ (o : Option Data). list_of (option_and_then present o)) (set_there name name all d there is)

-- ---- an event with the lots that it makes

made_others : (lots : List (List ℕ)) (d : Data) (other : List ℕ) → (other ≡ out_items → ⊥) → get other (with_made lots d) ≡ get other d
made_others lots d other apart = by (is_text is_made (type_text d))
  where
    by : (b : Bool) → get other (if b then with_texts out_items lots d else d) ≡ get other d
    by true = texts_others out_items other lots d apart
    by false = refl

pub event_others : (d : Data) (name : List ℕ) → (name ≡ out_items → ⊥) → get name (converted_event d) ≡ get name (lotted d)
unfolding converted_event
event_others d name apart = made_others (spellings (unit_lots d)) (lotted d) name apart

pub other_type : (d : Data) → is_text is_made (type_text (lotted d)) ≡ false → converted_event d ≡ lotted d
unfolding converted_event
other_type d is = rw is refl

pub its_type : (d : Data) → is_text is_made (type_text (lotted d)) ≡ true → converted_event d ≡ with_texts out_items (spellings (unit_lots d)) (lotted d)
unfolding converted_event
its_type d is = rw is refl

abbrev Behind : Data → Items → Type 0
Behind d list = (lots : List (List ℕ)) × AreLotsOf d lots × (list_of (member_named out_items (converted_event d)) ≡ Some (and_texts list lots))

abbrev pub spelling : List ℕ × List (List ℕ) → List ℕ
spelling lot = lot.0

are_lots : (d : Data) → AreLotsOf d (spellings (unit_lots d))
are_lots d lot has =
    let (l, its, is) = from_map spelling (unit_lots d) lot has in
    let found : IsLotOfUnits d l = lot_is d l its in
    (found.lot, found.gtin, found.text, found.names, found.unit, sym is ∙ ap spelling found.is)

pub event_behind : (d : Data) (text : List ℕ) (list : Items) → Names out_items text (lotted d) → list_of (member_named out_items (lotted d)) ≡ Some list → Behind d list
event_behind d text list (known, its, has) is = by (is_text is_made (type_text (lotted d))) refl
  where
    none : AreLotsOf d []
    none lot has = absurd (none_has lot has)

    by : (b : Bool) → is_text is_made (type_text (lotted d)) ≡ b → Behind d list
    by true t =
        let there = array_there (member_named out_items (lotted d)) known text its has in (
          spellings (unit_lots d),
          are_lots d,
          ap (λ v. list_of (member_named out_items v)) (its_type d t) ∙ texts_behind out_items (spellings (unit_lots d)) (lotted d) (array known) list there is,
        )
    by false t = ([], none, ap (λ v. list_of (member_named out_items v)) (other_type d t) ∙ is ∙ ap Some (sym (no_texts list)))

pub event_keeps : (d : Data) (text : List ℕ) → Names out_items text (lotted d) → Names out_items text (converted_event d)
event_keeps d text (list, its, has) =
    let (lots, are, is) = event_behind d text list (list, its, has) its in (
      and_texts list lots,
      is,
      subst (λ ds. Contains ds (string text)) (sym (listed_back (in_order list ++ map string lots))) (Contains-append_left (in_order list) (map string lots) (string text) has),
    )

-- ---- an event without such lots

none_made : (d : Data) → with_made [] d ≡ d
none_made d = by (is_text is_made (type_text d))
  where
    by : (b : Bool) → (if b then with_texts out_items [] d else d) ≡ d
    by true = refl
    by false = refl

pub none_behind : (d : Data) → unit_lots d ≡ [] → events_with_lots d ≡ lotted d ∷ []
unfolding converted_event
none_behind d is =
    ap (λ (ls : List (List ℕ × List (List ℕ))). with_made (spellings ls) (lotted d) ∷ lot_events_from d 1 ls) is ∙ ap (λ v. v ∷ []) (none_made (lotted d))

pub no_unit_lots : (d : Data) → has_unit_lots d ≡ false → unit_lots d ≡ []
no_unit_lots d none = by (unit_lots d) refl
  where
    by : (ls : List (List ℕ × List (List ℕ))) → unit_lots d ≡ ls → ls ≡ []
    by [] e = refl
    by (l ∷ ls) e =
        let some : not (length (l ∷ ls) == 0) ≡ true = rw (ne_eqb (suc (length ls)) 0 (λ z. absurd (omega arith))) refl in
        let no : true ≡ false = sym some ∙ ap (λ (x : List (List ℕ × List (List ℕ))). not (length x == 0)) (sym e) ∙ none in
        cc
