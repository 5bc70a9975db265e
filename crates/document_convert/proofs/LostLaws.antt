-- Nothing gets lost.
use Rattle.std.proofs.Common.{◌≡◌, ◌⊎◌, ℕ, List, ◌∷◌, ◌++◌, Contains, Bool, true, false, Option, Some, None, bytes_eq, codes, map, inl, inr, refl, sym, ap, ◌∙◌, subst}
use Rattle.std.specs.Prelude.{option_and_then, option_map}
use Rattle.std.proofs.lemmas.Option.{same_Some}
use Rattle.std.proofs.lemmas.List.Elements.{Contains-append_left}
use Rattle.std.proofs.lemmas.Slice.Eq.{bytes_eq-Decides}
use Rattle.serde_json.specs.Data.{Data, string, Items, no_items, item}
use Rattle.serde_json.specs.Find.{get}
use Rattle.serde_json.specs.View.{items_of}
use Rattle.event_json.specs.Checks.{type_text}
use Rattle.event_json.specs.Members.{member_named}
use Rattle.event_json.specs.Untraced.{in_order}
use Rattle.document_convert.specs.Lots.{lot_of}
use Rattle.document_convert.specs.Quantities.{and_texts, list_of, lot_in, lots_in, lots_of, with_its_lots}
use Rattle.document_convert.specs.Respelled.{respelled_item, respelled_text, spells_otherwise_by, with_spelled, with_spelled_lots}
use Rattle.document_convert.specs.Lotted.{converted_event, lotted}
use Rattle.document_convert.specs.LotLaws.{AreFilled, IsFilled, IsMoved, IsSpelled, KeepsItems, KeepsLots, KeepsParent, Names, NamesLot, NothingGetsLost}
use Rattle.document_convert.proofs.Beside.{array_there, lots_beside, names_beside, same_member, same_type}
use Rattle.document_convert.proofs.Has.{cases, here, there}
use Rattle.document_convert.proofs.Lists.{listed_back}
use Rattle.document_convert.proofs.MovedLaws.{contains_mapped, contains_none}
use Rattle.document_convert.proofs.MadeLots.{event_keeps, event_others}
use Rattle.document_convert.proofs.NamedLaws.{lots_are_named}
use Rattle.document_convert.proofs.RespelledLaws.{events_are_respelled}

-- ---- lists

-- in a list that is respelled
names_respelled : (name text : List ℕ) (d found : Data) → IsSpelled lot_of name d found → Names name text d → Names name (respelled_text text) found
names_respelled name text d found respelled (list, its, has) =
    let there = array_there (member_named name d) list text its has in (
      items_of (map respelled_item (in_order list)),
      ap list_of (respelled.list list there),
      subst (λ ds. Contains ds (string (respelled_text text))) (sym (listed_back (map respelled_item (in_order list)))) (contains_mapped respelled_item (in_order list) (string text) has),
    )

-- in a list behind which lots are put
names_moved : (quantities items text : List ℕ) (d found : Data) → IsMoved quantities items d found → Names items text d → Names items text found
names_moved quantities items text d found moved (list, its, has) = (
  and_texts list moved.lots,
  moved.behind list its,
  subst (λ ds. Contains ds (string text)) (sym (listed_back (in_order list ++ map string moved.lots))) (Contains-append_left (in_order list) (map string moved.lots) (string text) has),
)

-- ---- lots

-- the lot of an element is among the lots
among : (list : Items) (e : Data) (lot : List ℕ) (lots : List (List ℕ)) → Contains (in_order list) e → lot_in e ≡ Some lot → lots_in list ≡ Some lots → Contains lots lot
among no_items e lot lots has is all = absurd (contains_none e has)
among (item d ds) e lot lots has is all = by (lot_in d) (lots_in ds) refl refl all (λ ls later others. among ds e lot ls later is others)
  where
    by : (o : Option (List ℕ)) (rest : Option (List (List ℕ))) → lot_in d ≡ o → lots_in ds ≡ rest → option_and_then (λ l. option_map (λ ls. l ∷ ls) rest) o ≡ Some lots
        → ((ls : List (List ℕ)) → Contains (in_order ds) e → lots_in ds ≡ Some ls → Contains ls lot) → Contains lots lot
    by None rest first others a below = cc
    by (Some l) None first others a below = cc
    by (Some l) (Some ls) first others a below = subst (λ xs. Contains xs lot) (same_Some (l ∷ ls) lots a) (place (cases d e (in_order ds) has))
      where
        place : (d ≡ e) ⊎ Contains (in_order ds) e → Contains (l ∷ ls) lot
        place (inl same) = subst (λ x. Contains (l ∷ ls) x) (same_Some l lot (sym first ∙ ap lot_in same ∙ is)) (here l ls)
        place (inr later) = there l lot ls (below ls later others)

lot_moved : (quantities items lot : List ℕ) (d found : Data) → IsMoved quantities items d found → NamesLot quantities lot d → Names items lot found
lot_moved quantities items lot d found moved (list, e, its, has, is) =
    moved.named lot (among list e lot moved.lots has is (sym (ap lots_of its) ∙ moved.each))

-- what an event keeps that has its lots
abbrev HoldsItems : List ℕ → Data → Type 0
HoldsItems items d = (text : List ℕ) → Names items text d → Names items (respelled_text text) (lotted d)

abbrev HoldsLots : List ℕ → List ℕ → Data → Type 0
HoldsLots quantities items d = (lot : List ℕ) → NamesLot quantities lot d → Names items (respelled_text lot) (lotted d) ⊎ NamesLot quantities lot (lotted d)

abbrev HoldsParent : Data → Type 0
HoldsParent d = (text : List ℕ) → member_named (codes "parentID") d ≡ Some (string text) → member_named (codes "parentID") (lotted d) ≡ Some (string (respelled_text text))

-- ---- one list

-- the type stays
type_filled : (quantities items : List ℕ) (d : Data) → (codes "type" ≡ quantities → ⊥) → (codes "type" ≡ items → ⊥) → IsFilled quantities items d → type_text (with_its_lots d) ≡ type_text d
type_filled quantities items d a b (inl moved) = same_type d (with_its_lots d) (moved.others (codes "type") a b)
type_filled quantities items d a b (inr (stuck, same)) = ap type_text same

items_filled : (quantities items : List ℕ) (d : Data) → IsFilled quantities items d → (text : List ℕ) → Names items text d → Names items text (with_its_lots d)
items_filled quantities items d (inl moved) text names = names_moved quantities items text d (with_its_lots d) moved names
items_filled quantities items d (inr (stuck, same)) text names = subst (Names items text) (sym same) names

lots_filled : (quantities items : List ℕ) (d : Data) → IsFilled quantities items d → (lot : List ℕ) → NamesLot quantities lot d
    → Names items lot (with_its_lots d) ⊎ NamesLot quantities lot (with_its_lots d)
lots_filled quantities items d (inl moved) lot names = inl (lot_moved quantities items lot d (with_its_lots d) moved names)
lots_filled quantities items d (inr (stuck, same)) lot names = inr (subst (NamesLot quantities lot) (sym same) names)

either : (quantities items lot : List ℕ) (mid found : Data) → (Names items lot mid → Names items (respelled_text lot) found) → (NamesLot quantities lot mid → NamesLot quantities lot found)
    → Names items lot mid ⊎ NamesLot quantities lot mid → Names items (respelled_text lot) found ⊎ NamesLot quantities lot found
either quantities items lot mid found one other (inl names) = inl (one names)
either quantities items lot mid found one other (inr names) = inr (other names)

objects : (d : Data) → type_text d ≡ Some (codes "ObjectEvent") → HoldsItems (codes "epcList") d × HoldsLots (codes "quantityList") (codes "epcList") d
objects d is =
    let filled = lots_are_named.objects d is in
    let mid = with_its_lots d in
    let type = type_filled (codes "quantityList") (codes "epcList") d (λ e. cc) (λ e. cc) filled ∙ is in
    let respelled = events_are_respelled.objects mid type in (
      λ text names. names_respelled (codes "epcList") text mid (lotted d) respelled (items_filled (codes "quantityList") (codes "epcList") d filled text names),
      λ lot names. either (codes "quantityList") (codes "epcList") lot mid (lotted d)
          (names_respelled (codes "epcList") lot mid (lotted d) respelled)
          (lots_beside (codes "quantityList") lot mid (lotted d) (respelled.others (codes "quantityList") (λ e. cc)))
          (lots_filled (codes "quantityList") (codes "epcList") d filled lot names),
    )

aggregations : (d : Data) → type_text d ≡ Some (codes "AggregationEvent")
    → HoldsParent d × HoldsItems (codes "childEPCs") d × HoldsLots (codes "childQuantityList") (codes "childEPCs") d
aggregations d is =
    let filled = lots_are_named.aggregations d is in
    let mid = with_its_lots d in
    let type = type_filled (codes "childQuantityList") (codes "childEPCs") d (λ e. cc) (λ e. cc) filled ∙ is in
    let (half, parents, children) = events_are_respelled.aggregations mid type in
    let child : (text : List ℕ) → Names (codes "childEPCs") text mid → Names (codes "childEPCs") (respelled_text text) (lotted d) =
    λ text names. names_respelled (codes "childEPCs") text half (lotted d) children (names_beside (codes "childEPCs") text mid half (parents.others (codes "childEPCs") (λ e. cc)) names) in (
      λ text there. same_member (codes "parentID") half (lotted d) (children.others (codes "parentID") (λ e. cc))
          ∙ parents.text text (parent_filled filled ∙ there),
      λ text names. child text (items_filled (codes "childQuantityList") (codes "childEPCs") d filled text names),
      λ lot names. either (codes "childQuantityList") (codes "childEPCs") lot mid (lotted d) (child lot)
          (λ there. lots_beside (codes "childQuantityList") lot half (lotted d) (children.others (codes "childQuantityList") (λ e. cc))
          (lots_beside (codes "childQuantityList") lot mid half (parents.others (codes "childQuantityList") (λ e. cc)) there))
          (lots_filled (codes "childQuantityList") (codes "childEPCs") d filled lot names),
    )
  where
    parent_filled : IsFilled (codes "childQuantityList") (codes "childEPCs") d → member_named (codes "parentID") (with_its_lots d) ≡ member_named (codes "parentID") d
    parent_filled (inl moved) = same_member (codes "parentID") d (with_its_lots d) (moved.others (codes "parentID") (λ e. cc) (λ e. cc))
    parent_filled (inr (stuck, same)) = ap (member_named (codes "parentID")) same

-- ---- two lists

abbrev in_quantities : List ℕ
in_quantities = codes "inputQuantityList"

abbrev in_items : List ℕ
in_items = codes "inputEPCList"

abbrev out_quantities : List ℕ
out_quantities = codes "outputQuantityList"

abbrev out_items : List ℕ
out_items = codes "outputEPCList"

-- what of the first list stays beside the second, and the other way round
module _ (iq ii oq oi : List ℕ) (d : Data) where
  abbrev BothFilled : Type 0
  BothFilled = AreFilled iq ii oq oi d

  beside_both : (name : List ℕ) → (name ≡ iq → ⊥) → (name ≡ ii → ⊥) → (name ≡ oq → ⊥) → (name ≡ oi → ⊥) → BothFilled → get name (with_its_lots d) ≡ get name d
  beside_both name a b e f (inl (half, first, second)) = second.others name e f ∙ first.others name a b
  beside_both name a b e f (inr (stuck, same)) = ap (get name) same

  ins_filled : (ii ≡ oq → ⊥) → (ii ≡ oi → ⊥) → BothFilled → (text : List ℕ) → Names ii text d → Names ii text (with_its_lots d)
  ins_filled a b (inl (half, first, second)) text names = names_beside ii text half (with_its_lots d) (second.others ii a b) (names_moved iq ii text d half first names)
  ins_filled a b (inr (stuck, same)) text names = subst (Names ii text) (sym same) names

  outs_filled : (oi ≡ iq → ⊥) → (oi ≡ ii → ⊥) → BothFilled → (text : List ℕ) → Names oi text d → Names oi text (with_its_lots d)
  outs_filled a b (inl (half, first, second)) text names = names_moved oq oi text half (with_its_lots d) second (names_beside oi text d half (first.others oi a b) names)
  outs_filled a b (inr (stuck, same)) text names = subst (Names oi text) (sym same) names

  in_lots : (ii ≡ oq → ⊥) → (ii ≡ oi → ⊥) → BothFilled → (lot : List ℕ) → NamesLot iq lot d → Names ii lot (with_its_lots d) ⊎ NamesLot iq lot (with_its_lots d)
  in_lots a b (inl (half, first, second)) lot names = inl (names_beside ii lot half (with_its_lots d) (second.others ii a b) (lot_moved iq ii lot d half first names))
  in_lots a b (inr (stuck, same)) lot names = inr (subst (NamesLot iq lot) (sym same) names)

  out_lots : (oq ≡ iq → ⊥) → (oq ≡ ii → ⊥) → BothFilled → (lot : List ℕ) → NamesLot oq lot d → Names oi lot (with_its_lots d) ⊎ NamesLot oq lot (with_its_lots d)
  out_lots a b (inl (half, first, second)) lot names = inl (lot_moved oq oi lot half (with_its_lots d) second (lots_beside oq lot d half (first.others oq a b) names))
  out_lots a b (inr (stuck, same)) lot names = inr (subst (NamesLot oq lot) (sym same) names)

-- the type stays
type_both : (d : Data) → AreFilled in_quantities in_items out_quantities out_items d → type_text (with_its_lots d) ≡ type_text d
type_both d filled = same_type d (with_its_lots d) (beside_both in_quantities in_items out_quantities out_items d (codes "type") (λ e. cc) (λ e. cc) (λ e. cc) (λ e. cc) filled)

-- one of two lists that are respelled, one after the other
module _ (ii oi : List ℕ) (mid half found : Data) where
  first_respelled : (text : List ℕ) → (ii ≡ oi → ⊥) → IsSpelled lot_of ii mid half → IsSpelled lot_of oi half found → Names ii text mid → Names ii (respelled_text text) found
  first_respelled text apart ins outs names = names_beside ii (respelled_text text) half found (outs.others ii apart) (names_respelled ii text mid half ins names)

  second_respelled : (text : List ℕ) → (oi ≡ ii → ⊥) → IsSpelled lot_of ii mid half → IsSpelled lot_of oi half found → Names oi text mid → Names oi (respelled_text text) found
  second_respelled text apart ins outs names = names_respelled oi text half found outs (names_beside oi text mid half (ins.others oi apart) names)

  lots_stay : (name lot : List ℕ) → (name ≡ ii → ⊥) → (name ≡ oi → ⊥) → IsSpelled lot_of ii mid half → IsSpelled lot_of oi half found → NamesLot name lot mid → NamesLot name lot found
  lots_stay name lot a b ins outs names = lots_beside name lot half found (outs.others name b) (lots_beside name lot mid half (ins.others name a) names)

inputs : (d : Data) → type_text d ≡ Some (codes "TransformationEvent") → HoldsItems in_items d × HoldsLots in_quantities in_items d
inputs d is =
    let filled = lots_are_named.transformations d is in
    let mid = with_its_lots d in
    let (half, ins, outs) = events_are_respelled.transformations mid (type_both d filled ∙ is) in (
      λ text names. first_respelled in_items out_items mid half (lotted d) text (λ e. cc) ins outs
          (ins_filled in_quantities in_items out_quantities out_items d (λ e. cc) (λ e. cc) filled text names),
      λ lot names. either in_quantities in_items lot mid (lotted d)
          (first_respelled in_items out_items mid half (lotted d) lot (λ e. cc) ins outs)
          (lots_stay in_items out_items mid half (lotted d) in_quantities lot (λ e. cc) (λ e. cc) ins outs)
          (in_lots in_quantities in_items out_quantities out_items d (λ e. cc) (λ e. cc) filled lot names),
    )

pub outputs : (d : Data) → type_text d ≡ Some (codes "TransformationEvent") → HoldsItems out_items d × HoldsLots out_quantities out_items d
outputs d is =
    let filled = lots_are_named.transformations d is in
    let mid = with_its_lots d in
    let (half, ins, outs) = events_are_respelled.transformations mid (type_both d filled ∙ is) in (
      λ text names. second_respelled in_items out_items mid half (lotted d) text (λ e. cc) ins outs
          (outs_filled in_quantities in_items out_quantities out_items d (λ e. cc) (λ e. cc) filled text names),
      λ lot names. either out_quantities out_items lot mid (lotted d)
          (second_respelled in_items out_items mid half (lotted d) lot (λ e. cc) ins outs)
          (lots_stay in_items out_items mid half (lotted d) out_quantities lot (λ e. cc) (λ e. cc) ins outs)
          (out_lots in_quantities in_items out_quantities out_items d (λ e. cc) (λ e. cc) filled lot names),
    )

-- ---- and with the lots that it makes, too

keeps_items : (items : List ℕ) (d : Data) → (items ≡ out_items → ⊥) → HoldsItems items d → KeepsItems items d
keeps_items items d apart holds text names = names_beside items (respelled_text text) (lotted d) (converted_event d) (event_others d items apart) (holds text names)

keeps_outputs : (d : Data) → HoldsItems out_items d → KeepsItems out_items d
keeps_outputs d holds text names = event_keeps d (respelled_text text) (holds text names)

-- a quantity stays where it was, and a lot is where it is now
kept_lots : (quantities items : List ℕ) (d : Data) → (quantities ≡ out_items → ⊥)
    → ((text : List ℕ) → Names items text (lotted d) → Names items text (converted_event d)) → HoldsLots quantities items d → KeepsLots quantities items d
kept_lots quantities items d apart kept holds lot names = by (holds lot names)
  where
    by : Names items (respelled_text lot) (lotted d) ⊎ NamesLot quantities lot (lotted d)
        → Names items (respelled_text lot) (converted_event d) ⊎ NamesLot quantities lot (converted_event d)
    by (inl there) = inl (kept (respelled_text lot) there)
    by (inr there) = inr (lots_beside quantities lot (lotted d) (converted_event d) (event_others d quantities apart) there)

kept_beside : (items : List ℕ) (d : Data) → (items ≡ out_items → ⊥) → (text : List ℕ) → Names items text (lotted d) → Names items text (converted_event d)
kept_beside items d apart text names = names_beside items text (lotted d) (converted_event d) (event_others d items apart) names

objects_kept : (d : Data) → type_text d ≡ Some (codes "ObjectEvent") → KeepsItems (codes "epcList") d × KeepsLots (codes "quantityList") (codes "epcList") d
objects_kept d is =
    let (items, lots) = objects d is in (
      keeps_items (codes "epcList") d (λ e. cc) items,
      kept_lots (codes "quantityList") (codes "epcList") d (λ e. cc) (kept_beside (codes "epcList") d (λ e. cc)) lots,
    )

aggregations_kept : (d : Data) → type_text d ≡ Some (codes "AggregationEvent")
    → KeepsParent d × KeepsItems (codes "childEPCs") d × KeepsLots (codes "childQuantityList") (codes "childEPCs") d
aggregations_kept d is =
    let (parent, items, lots) = aggregations d is in (
      λ text there. same_member (codes "parentID") (lotted d) (converted_event d) (event_others d (codes "parentID") (λ e. cc)) ∙ parent text there,
      keeps_items (codes "childEPCs") d (λ e. cc) items,
      kept_lots (codes "childQuantityList") (codes "childEPCs") d (λ e. cc) (kept_beside (codes "childEPCs") d (λ e. cc)) lots,
    )

inputs_kept : (d : Data) → type_text d ≡ Some (codes "TransformationEvent") → KeepsItems in_items d × KeepsLots in_quantities in_items d
inputs_kept d is =
    let (items, lots) = inputs d is in (
      keeps_items in_items d (λ e. cc) items,
      kept_lots in_quantities in_items d (λ e. cc) (kept_beside in_items d (λ e. cc)) lots,
    )

outputs_kept : (d : Data) → type_text d ≡ Some (codes "TransformationEvent") → KeepsItems out_items d × KeepsLots out_quantities out_items d
outputs_kept d is =
    let (items, lots) = outputs d is in (
      keeps_outputs d items,
      kept_lots out_quantities out_items d (λ e. cc) (event_keeps d) lots,
    )

pub nothing_gets_lost : NothingGetsLost
nothing_gets_lost = record { objects = objects_kept; aggregations = aggregations_kept; inputs = inputs_kept; outputs = outputs_kept }

-- ---- the type of an event stays

type_of_object : (d : Data) → type_text d ≡ Some (codes "ObjectEvent") → type_text (lotted d) ≡ type_text d
type_of_object d is =
    let mid = with_its_lots d in
    let filled = type_filled (codes "quantityList") (codes "epcList") d (λ e. cc) (λ e. cc) (lots_are_named.objects d is) in
    same_type mid (lotted d) ((events_are_respelled.objects mid (filled ∙ is)).others (codes "type") (λ e. cc)) ∙ filled

type_of_aggregation : (d : Data) → type_text d ≡ Some (codes "AggregationEvent") → type_text (lotted d) ≡ type_text d
type_of_aggregation d is =
    let mid = with_its_lots d in
    let filled = type_filled (codes "childQuantityList") (codes "childEPCs") d (λ e. cc) (λ e. cc) (lots_are_named.aggregations d is) in
    let (half, parents, children) = events_are_respelled.aggregations mid (filled ∙ is) in
    same_type half (lotted d) (children.others (codes "type") (λ e. cc)) ∙ same_type mid half (parents.others (codes "type") (λ e. cc)) ∙ filled

type_of_transformation : (d : Data) → type_text d ≡ Some (codes "TransformationEvent") → type_text (lotted d) ≡ type_text d
type_of_transformation d is =
    let mid = with_its_lots d in
    let filled = type_both d (lots_are_named.transformations d is) in
    let (half, ins, outs) = events_are_respelled.transformations mid (filled ∙ is) in
    same_type half (lotted d) (outs.others (codes "type") (λ e. cc)) ∙ same_type mid half (ins.others (codes "type") (λ e. cc)) ∙ filled

pub type_stays : (d : Data) → type_text (lotted d) ≡ type_text d
unfolding with_its_lots with_spelled spells_otherwise_by
type_stays d = of_type (type_text d) refl
  where
    is_named : (text name : List ℕ) → type_text d ≡ Some text → bytes_eq text name ≡ true → type_text d ≡ Some name
    is_named text name t e = t ∙ ap Some ((bytes_eq-Decides text name).0 e)

    of_transformation : (text : List ℕ) (b : Bool) → type_text d ≡ Some text → bytes_eq text (codes "ObjectEvent") ≡ false → bytes_eq text (codes "AggregationEvent") ≡ false
        → bytes_eq text (codes "TransformationEvent") ≡ b → type_text (lotted d) ≡ type_text d
    of_transformation text true t o a e = type_of_transformation d (is_named text (codes "TransformationEvent") t e)
    of_transformation text false t o a e =
        let mid : with_its_lots d ≡ d = rw (t, o, a, e) refl in
        let same : with_spelled_lots d ≡ d = rw (t, o, a, e) refl in
        ap (λ v. type_text (with_spelled_lots v)) mid ∙ ap type_text same

    of_aggregation : (text : List ℕ) (b : Bool) → type_text d ≡ Some text → bytes_eq text (codes "ObjectEvent") ≡ false → bytes_eq text (codes "AggregationEvent") ≡ b
        → type_text (lotted d) ≡ type_text d
    of_aggregation text true t o a = type_of_aggregation d (is_named text (codes "AggregationEvent") t a)
    of_aggregation text false t o a = of_transformation text (bytes_eq text (codes "TransformationEvent")) t o a refl

    of_object : (text : List ℕ) (b : Bool) → type_text d ≡ Some text → bytes_eq text (codes "ObjectEvent") ≡ b → type_text (lotted d) ≡ type_text d
    of_object text true t o = type_of_object d (is_named text (codes "ObjectEvent") t o)
    of_object text false t o = of_aggregation text (bytes_eq text (codes "AggregationEvent")) t o refl

    of_type : (o : Option (List ℕ)) → type_text d ≡ o → type_text (lotted d) ≡ type_text d
    of_type None t =
        let mid : with_its_lots d ≡ d = rw t refl in
        let same : with_spelled_lots d ≡ d = rw t refl in
        ap (λ v. type_text (with_spelled_lots v)) mid ∙ ap type_text same
    of_type (Some text) t = of_object text (bytes_eq text (codes "ObjectEvent")) t refl
