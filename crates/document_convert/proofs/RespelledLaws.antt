-- What an event names becomes its one spelling, and all else stays.
use Rattle.std.proofs.Common.{◌≡◌, ℕ, List, [], ◌∷◌, Option, Some, None, codes, map, Bool, true, false, refl, sym, ap, ◌∙◌, if◌then◌else◌}
use Rattle.std.specs.Prelude.{◌||◌, bytes_eq, not, option_and_then, unwrap_or}
use Rattle.std.specs.List.{list_any}
use Rattle.std.proofs.lemmas.Slice.Eq.{bytes_eq-Decides}
use Rattle.serde_json.specs.Data.{Data, null, boolean, number, string, array, object}
use Rattle.serde_json.specs.Find.{get}
use Rattle.serde_json.specs.View.{items_of}
use Rattle.event_json.specs.Checks.{type_text}
use Rattle.event_json.specs.Members.{member_named, present}
use Rattle.event_json.specs.Untraced.{in_order, is_text}
use Rattle.document_convert.specs.Types.{with_member}
use Rattle.document_convert.specs.Lots.{SpellsLot, lot_of}
use Rattle.item_spellings.specs.Lots.{lot_text}
use Rattle.document_convert.specs.Respelled.{Spelling, is_otherwise, item_otherwise, otherwise_as, respelled_item, spelled, spelled_at, spelled_item, spelled_member, spelled_text, spells_otherwise_by, value_otherwise, with_spelled}
use Rattle.document_convert.specs.LotLaws.{AreSpelled, EventsAreRespelled, EventsAreSpelled, IsSpelled, TextsAreRespelled}
use Rattle.document_convert.proofs.Beside.{same_type}
use Rattle.document_convert.proofs.Lists.{items_back}
use Rattle.document_convert.proofs.LotSpellings.{are_lots, become_one}
use Rattle.document_convert.proofs.Members.{other_member}
use Rattle.document_convert.proofs.MovedLaws.{set_there}
use Rattle.document_convert.proofs.NoLots.{both_none}

-- ---- texts

lots_become : (text gtin number : List ℕ) → SpellsLot text gtin number → respelled_item (string text) ≡ string (lot_text gtin number)
lots_become text gtin lot s = ap (λ (o : Option (List ℕ)). string (unwrap_or o text)) (become_one text gtin lot s)

others_stay : (text : List ℕ) → ((gtin number : List ℕ) → SpellsLot text gtin number → ⊥) → respelled_item (string text) ≡ string text
others_stay text none = by (lot_of text) refl
  where
    by : (o : Option (List ℕ)) → lot_of text ≡ o → string (unwrap_or o text) ≡ string text
    by None is = refl
    by (Some spelled) is = let lot = are_lots text spelled is in absurd (none lot.0 lot.1 lot.2)

pub texts_are_respelled : TextsAreRespelled
texts_are_respelled = record { lots = lots_become; others = others_stay }

-- ---- what isn't spelled otherwise stays

module _ (f : Spelling) where
  pub same_text : (text : List ℕ) → is_otherwise f text ≡ false → spelled_text f text ≡ text
  same_text text is = by (f text) is
    where
      by : (o : Option (List ℕ)) → is_text (λ spelled. not (bytes_eq spelled text)) o ≡ false → unwrap_or o text ≡ text
      by None is = refl
      by (Some spelled) is = (bytes_eq-Decides spelled text).0 (not_not (bytes_eq spelled text) is)
        where
          not_not : (b : Bool) → not b ≡ false → b ≡ true
          not_not true e = refl
          not_not false e = cc

  same_item : (d : Data) → item_otherwise f d ≡ false → spelled_item f d ≡ d
  same_item null is = refl
  same_item (boolean b) is = refl
  same_item (number n) is = refl
  same_item (string s) is = ap string (same_text s is)
  same_item (array ds) is = refl
  same_item (object ms) is = refl

  same_items : (ds : List Data) → list_any (item_otherwise f) ds ≡ false → map (spelled_item f) ds ≡ ds
  same_items [] is = refl
  same_items (d ∷ ds) is =
      let parts = both_none (item_otherwise f d) (list_any (item_otherwise f) ds) is in
      λ i. same_item d parts.0 i ∷ same_items ds parts.1 i

  stays_at : (name : List ℕ) (d : Data) → value_otherwise f (member_named name d) ≡ false → IsSpelled f name d d
  stays_at name d none = record {
    list = λ items is.
        let none_of : list_any (item_otherwise f) (in_order items) ≡ false = rw is at none in
        is ∙ ap (λ ds. Some (array ds)) (sym (ap items_of (same_items (in_order items) none_of) ∙ items_back items));
    text = λ text is.
        let first = both_none (item_otherwise f (string text)) false (rw is at none) in
        is ∙ ap Some (sym (same_item (string text) first.0));
    others = λ other apart. refl;
  }

  -- ---- what is spelled otherwise is respelled

  others_at : (name other : List ℕ) (d : Data) (o : Option Data) → (other ≡ name → ⊥) → get other (spelled_member f name d o) ≡ get other d
  others_at name other d None apart = refl
  others_at name other d (Some value) apart = other_member other name (spelled f value) d apart

  is_set : (name : List ℕ) (value found d : Data) → member_named name d ≡ Some found → present value ≡ Some value → member_named name (with_member name value d) ≡ Some value
  is_set name value found d there whole = ap (option_and_then present) (set_there name name value d found there) ∙ whole

  member_spelled : (name : List ℕ) (d : Data) → IsSpelled f name d (spelled_at f name d)
  unfolding spelled_at
  member_spelled name d = record {
    list = λ items is.
        ap (λ (o : Option Data). member_named name (spelled_member f name d o)) is
        ∙ is_set name (array (items_of (map (spelled_item f) (in_order items)))) (array items) d is refl;
    text = λ text is.
        ap (λ (o : Option Data). member_named name (spelled_member f name d o)) is
        ∙ is_set name (spelled_item f (string text)) (string text) d is refl;
    others = λ other apart. others_at name other d (member_named name d) apart;
  }

  -- ---- events

  one_member : (name : List ℕ) (d : Data) → spells_otherwise_by f d ≡ value_otherwise f (member_named name d)
      → with_spelled f d ≡ (if spells_otherwise_by f d then spelled_at f name d else d) → IsSpelled f name d (with_spelled f d)
  one_member name d otherwise is = by (spells_otherwise_by f d) refl
    where
      by : (b : Bool) → spells_otherwise_by f d ≡ b → IsSpelled f name d (with_spelled f d)
      by true e = rw (is, e) (member_spelled name d)
      by false e = rw (is, e) (stays_at name d (sym otherwise ∙ e))

  two_members : (first second : List ℕ) (d : Data) → spells_otherwise_by f d ≡ (value_otherwise f (member_named first d) || value_otherwise f (member_named second d))
      → with_spelled f d ≡ (if spells_otherwise_by f d then spelled_at f second (spelled_at f first d) else d) → AreSpelled f first second d (with_spelled f d)
  two_members first second d otherwise is = by (spells_otherwise_by f d) refl
    where
      by : (b : Bool) → spells_otherwise_by f d ≡ b → AreSpelled f first second d (with_spelled f d)
      by true e = rw (is, e) (spelled_at f first d, member_spelled first d, member_spelled second (spelled_at f first d))
      by false e =
          let none = both_none (value_otherwise f (member_named first d)) (value_otherwise f (member_named second d)) (sym otherwise ∙ e) in
          rw (is, e) (d, stays_at first d none.0, stays_at second d none.1)

  told : (d : Data) (text : List ℕ) → type_text d ≡ Some text → spells_otherwise_by f d ≡ otherwise_as f d text
  unfolding spells_otherwise_by
  told d text is = ap (is_text (otherwise_as f d)) is

  objects : (d : Data) → type_text d ≡ Some (codes "ObjectEvent") → IsSpelled f (codes "epcList") d (with_spelled f d)
  unfolding with_spelled
  objects d is = one_member (codes "epcList") d (told d (codes "ObjectEvent") is) (rw is refl)

  aggregations : (d : Data) → type_text d ≡ Some (codes "AggregationEvent") → AreSpelled f (codes "parentID") (codes "childEPCs") d (with_spelled f d)
  unfolding with_spelled
  aggregations d is = two_members (codes "parentID") (codes "childEPCs") d (told d (codes "AggregationEvent") is) (rw is refl)

  transformations : (d : Data) → type_text d ≡ Some (codes "TransformationEvent") → AreSpelled f (codes "inputEPCList") (codes "outputEPCList") d (with_spelled f d)
  unfolding with_spelled
  transformations d is = two_members (codes "inputEPCList") (codes "outputEPCList") d (told d (codes "TransformationEvent") is) (rw is refl)

  -- an event of another type stays
  others : (d : Data) → (type_text d ≡ Some (codes "ObjectEvent") → ⊥) → (type_text d ≡ Some (codes "AggregationEvent") → ⊥)
      → (type_text d ≡ Some (codes "TransformationEvent") → ⊥) → with_spelled f d ≡ d
  unfolding with_spelled spells_otherwise_by
  others d a b e = of_type (type_text d) refl
    where
      is_other : (text name : List ℕ) (t : Bool) → type_text d ≡ Some text → (type_text d ≡ Some name → ⊥) → bytes_eq text name ≡ t → bytes_eq text name ≡ false
      is_other text name true is other same = absurd (other (is ∙ ap Some ((bytes_eq-Decides text name).0 same)))
      is_other text name false is other same = same

      of_type : (o : Option (List ℕ)) → type_text d ≡ o → with_spelled f d ≡ d
      of_type None is = rw is refl
      of_type (Some text) is =
          let first = is_other text (codes "ObjectEvent") (bytes_eq text (codes "ObjectEvent")) is a refl in
          let second = is_other text (codes "AggregationEvent") (bytes_eq text (codes "AggregationEvent")) is b refl in
          let third = is_other text (codes "TransformationEvent") (bytes_eq text (codes "TransformationEvent")) is e refl in
          rw (is, first, second, third) refl

  pub events_are_spelled : EventsAreSpelled f
  events_are_spelled = record { objects = objects; aggregations = aggregations; transformations = transformations; others = others }

  -- the type of an event stays
  pub spelled_type : (d : Data) → type_text (with_spelled f d) ≡ type_text d
  unfolding with_spelled spells_otherwise_by
  spelled_type d = of_type (type_text d) refl
    where
      is_named : (text name : List ℕ) → type_text d ≡ Some text → bytes_eq text name ≡ true → type_text d ≡ Some name
      is_named text name t e = t ∙ ap Some ((bytes_eq-Decides text name).0 e)

      of_transformation : (text : List ℕ) (b : Bool) → type_text d ≡ Some text → bytes_eq text (codes "ObjectEvent") ≡ false → bytes_eq text (codes "AggregationEvent") ≡ false
          → bytes_eq text (codes "TransformationEvent") ≡ b → type_text (with_spelled f d) ≡ type_text d
      of_transformation text true t o a e =
          let (half, ins, outs) = transformations d (is_named text (codes "TransformationEvent") t e) in
          same_type half (with_spelled f d) (outs.others (codes "type") (λ e. cc)) ∙ same_type d half (ins.others (codes "type") (λ e. cc))
      of_transformation text false t o a e =
          let same : with_spelled f d ≡ d = rw (t, o, a, e) refl in
          ap type_text same

      of_aggregation : (text : List ℕ) (b : Bool) → type_text d ≡ Some text → bytes_eq text (codes "ObjectEvent") ≡ false → bytes_eq text (codes "AggregationEvent") ≡ b
          → type_text (with_spelled f d) ≡ type_text d
      of_aggregation text true t o a =
          let (half, parents, children) = aggregations d (is_named text (codes "AggregationEvent") t a) in
          same_type half (with_spelled f d) (children.others (codes "type") (λ e. cc)) ∙ same_type d half (parents.others (codes "type") (λ e. cc))
      of_aggregation text false t o a = of_transformation text (bytes_eq text (codes "TransformationEvent")) t o a refl

      of_object : (text : List ℕ) (b : Bool) → type_text d ≡ Some text → bytes_eq text (codes "ObjectEvent") ≡ b → type_text (with_spelled f d) ≡ type_text d
      of_object text true t o = same_type d (with_spelled f d) ((objects d (is_named text (codes "ObjectEvent") t o)).others (codes "type") (λ e. cc))
      of_object text false t o = of_aggregation text (bytes_eq text (codes "AggregationEvent")) t o refl

      of_type : (o : Option (List ℕ)) → type_text d ≡ o → type_text (with_spelled f d) ≡ type_text d
      of_type None t =
          let same : with_spelled f d ≡ d = rw t refl in
          ap type_text same
      of_type (Some text) t = of_object text (bytes_eq text (codes "ObjectEvent")) t refl

pub events_are_respelled : EventsAreRespelled
events_are_respelled = events_are_spelled lot_of
