-- A document of which some events change.
use Rattle.std.proofs.Common.{◌≡◌, ℕ, List, [], ◌∷◌, Bool, true, false, Option, Some, None, Ok, codes, map, refl, sym, ap, ◌∙◌}
use Rattle.std.specs.List.{list_any}
use Rattle.std.proofs.lemmas.Slice.Eq.{bytes_eq-Decides}
use Rattle.serde_json.specs.Data.{Data, Items, no_items, item}
use Rattle.serde_json.specs.Find.{get}
use Rattle.serde_json.specs.View.{items_of}
use Rattle.event_json.specs.Checks.{type_text}
use Rattle.event_json.specs.Documents.{event_list, listed}
use Rattle.event_json.specs.Untraced.{in_order, is_text}
use Rattle.document_convert.specs.Documents.{document_around}
use Rattle.document_convert.specs.EachEvent.{with_each}
use Rattle.document_convert.specs.EachLaws.{ChangesEach}
use Rattle.document_convert.proofs.Around.{around_type}
use Rattle.document_convert.proofs.Bare.{event_type, list_of_itself}
use Rattle.document_convert.proofs.Lists.{items_back, listed_back}
use Rattle.document_convert.proofs.Members.{other_member}
use Rattle.document_convert.proofs.NoLots.{alone_list, both_none, its_list}
use Rattle.document_convert.proofs.Settled.{is_document}
use Rattle.document_convert.proofs.UnitLaws.{alone_type, around_events, listed_object}

pub its_type : (d : Data) → is_text is_document (type_text d) ≡ true → type_text d ≡ Some (codes "EPCISDocument")
its_type d named = by (type_text d) refl named
  where
    by : (o : Option (List ℕ)) → type_text d ≡ o → is_text is_document o ≡ true → o ≡ Some (codes "EPCISDocument")
    by None t named = cc
    by (Some text) t named = ap Some ((bytes_eq-Decides text (codes "EPCISDocument")).0 named)

is_named : (d : Data) → type_text d ≡ Some (codes "EPCISDocument") → is_text is_document (type_text d) ≡ true
is_named d is = ap (is_text is_document) is

-- Some events change, and no type does.
module _ (changes : Data → Bool) (change : Data → Data) (stays : (d : Data) → changes d ≡ false → change d ≡ d) (type_stays : (d : Data) → type_text (change d) ≡ type_text d) where
  abbrev turned : Data → Data
  turned = with_each changes change

  all_stay : (es : List Data) → list_any changes es ≡ false → map change es ≡ es
  all_stay [] none = refl
  all_stay (e ∷ es) none =
      let parts = both_none (changes e) (list_any changes es) none in
      λ i. stays e parts.0 i ∷ all_stay es parts.1 i

  -- ---- which documents there are

  -- a document is itself, or is made of its events, or is an event alone
  in_list : (d : Data) (items : Items) → is_text is_document (type_text d) ≡ true → listed d ≡ Some items → list_any changes (in_order items) ≡ true
      → turned d ≡ document_around d (map change (in_order items))
  unfolding with_each
  in_list d items named list some = rw (named, list, some) refl

  none_in_list : (d : Data) (items : Items) → is_text is_document (type_text d) ≡ true → listed d ≡ Some items → list_any changes (in_order items) ≡ false
      → turned d ≡ d
  unfolding with_each
  none_in_list d items named list none = rw (named, list, none) refl

  no_list : (d : Data) → is_text is_document (type_text d) ≡ true → listed d ≡ None → turned d ≡ d
  unfolding with_each
  no_list d named list = rw (named, list) refl

  alone : (d : Data) → is_text is_document (type_text d) ≡ false → turned d ≡ change d
  unfolding with_each
  alone d other = rw other refl

  -- ---- its events

  abbrev AreChanged : Data → Items → Type 0
  AreChanged d events = event_list (turned d) ≡ Ok (items_of (map change (in_order events)))

  found_in : (d : Data) (events : Items) → event_list d ≡ Ok events → is_text is_document (type_text d) ≡ true → AreChanged d events
  found_in d events is named = by (list_any changes (in_order events)) refl
    where
      list : listed d ≡ Some events
      list = its_list d events is named

      by : (b : Bool) → list_any changes (in_order events) ≡ b → AreChanged d events
      by true some =
          let (ms, same) = listed_object d events list in
          ap event_list (in_list d events named list some)
          ∙ ap (λ v. event_list (document_around v (map change (in_order events)))) same
          ∙ around_events ms (map change (in_order events))
      by false none =
          ap event_list (none_in_list d events named list none) ∙ is ∙ ap Ok (sym (ap items_of (all_stay (in_order events) none) ∙ items_back events))

  found_alone : (d : Data) (events : Items) → event_list d ≡ Ok events → is_text is_document (type_text d) ≡ false → AreChanged d events
  found_alone d events is other =
      let one : events ≡ item d no_items = alone_list d events is other in
      let (text, type, named) = alone_type d events is other in
      ap event_list (alone d other)
      ∙ list_of_itself (change d) text (type_stays d ∙ type) (event_type text named)
      ∙ ap (λ (i : Items). Ok (items_of (map change (in_order i)))) (sym one)

  in_place : (d : Data) (events : Items) → event_list d ≡ Ok events → AreChanged d events
  in_place d events is = by (is_text is_document (type_text d)) refl
    where
      by : (b : Bool) → is_text is_document (type_text d) ≡ b → AreChanged d events
      by true named = found_in d events is named
      by false other = found_alone d events is other

  -- ---- its other members

  types : (d : Data) → type_text (turned d) ≡ type_text d
  types d = by (is_text is_document (type_text d)) refl
    where
      of_list : (items : Items) (b : Bool) → is_text is_document (type_text d) ≡ true → listed d ≡ Some items → list_any changes (in_order items) ≡ b
          → type_text (turned d) ≡ type_text d
      of_list items true named list some =
          let (ms, same) = listed_object d items list in
          ap type_text (in_list d items named list some)
          ∙ ap (λ v. type_text (document_around v (map change (in_order items)))) same
          ∙ around_type ms (map change (in_order items))
          ∙ sym (its_type d named)
      of_list items false named list none = ap type_text (none_in_list d items named list none)

      of_document : (o : Option Items) → is_text is_document (type_text d) ≡ true → listed d ≡ o → type_text (turned d) ≡ type_text d
      of_document None named list = ap type_text (no_list d named list)
      of_document (Some items) named list = of_list items (list_any changes (in_order items)) named list refl

      by : (b : Bool) → is_text is_document (type_text d) ≡ b → type_text (turned d) ≡ type_text d
      by true named = of_document (listed d) named refl
      by false other = ap type_text (alone d other) ∙ type_stays d

  others : (d : Data) (name : List ℕ) → type_text d ≡ Some (codes "EPCISDocument") → (name ≡ codes "type" → ⊥) → (name ≡ codes "epcisBody" → ⊥)
      → get name (turned d) ≡ get name d
  others d name is type body = of_document (listed d) refl
    where
      named : is_text is_document (type_text d) ≡ true
      named = is_named d is

      of_list : (items : Items) (b : Bool) → listed d ≡ Some items → list_any changes (in_order items) ≡ b → get name (turned d) ≡ get name d
      of_list items true list some =
          ap (get name) (in_list d items named list some) ∙ other_member name (codes "epcisBody") _ _ body ∙ other_member name (codes "type") _ d type
      of_list items false list none = ap (get name) (none_in_list d items named list none)

      of_document : (o : Option Items) → listed d ≡ o → get name (turned d) ≡ get name d
      of_document None list = ap (get name) (no_list d named list)
      of_document (Some items) list = of_list items (list_any changes (in_order items)) list refl

  bare : (d : Data) → (type_text d ≡ Some (codes "EPCISDocument") → ⊥) → turned d ≡ change d
  bare d other = by (is_text is_document (type_text d)) refl
    where
      by : (b : Bool) → is_text is_document (type_text d) ≡ b → turned d ≡ change d
      by true named = absurd (other (its_type d named))
      by false none = alone d none

  -- ---- what stays

  its_events : (d : Data) (items : Items) → is_text is_document (type_text d) ≡ true → listed d ≡ Some items → event_list d ≡ Ok items
  unfolding event_list
  its_events d items named list = rw (its_type d named, list) refl

  none_changed : (es : List Data) → ((d : Data) → changes (change d) ≡ false) → list_any changes (map change es) ≡ false
  none_changed [] settled = refl
  none_changed (e ∷ es) settled = rw (settled e) (none_changed es settled)

  -- what was changed doesn't change again
  pub second : ((d : Data) → changes (change d) ≡ false) → (d : Data) → turned (turned d) ≡ turned d
  second settled d = by (is_text is_document (type_text d)) refl
    where
      of_list : (items : Items) (b : Bool) → is_text is_document (type_text d) ≡ true → listed d ≡ Some items → list_any changes (in_order items) ≡ b
          → turned (turned d) ≡ turned d
      of_list items true named list some =
          let found = map change (in_order items) in
          let is = ap (is_text is_document) (types d) ∙ named in
          let its = its_list (turned d) (items_of found) (in_place d items (its_events d items named list)) is in
          none_in_list (turned d) (items_of found) is its (ap (list_any changes) (listed_back found) ∙ none_changed (in_order items) settled)
      of_list items false named list none = ap turned (none_in_list d items named list none)

      of_document : (o : Option Items) → is_text is_document (type_text d) ≡ true → listed d ≡ o → turned (turned d) ≡ turned d
      of_document None named list = ap turned (no_list d named list)
      of_document (Some items) named list = of_list items (list_any changes (in_order items)) named list refl

      by : (b : Bool) → is_text is_document (type_text d) ≡ b → turned (turned d) ≡ turned d
      by true named = of_document (listed d) named refl
      by false other =
          let still = ap (is_text is_document) (type_stays d) ∙ other in
          ap turned (alone d other) ∙ alone (change d) still ∙ stays (change d) (settled d) ∙ sym (alone d other)

  -- a document stays of which no event changes, and which isn't changed as an event alone
  pub unchanged : (d : Data) → ((items : Items) → event_list d ≡ Ok items → list_any changes (in_order items) ≡ false)
      → (is_text is_document (type_text d) ≡ false → change d ≡ d) → turned d ≡ d
  unchanged d none same = by (is_text is_document (type_text d)) refl
    where
      of_document : (o : Option Items) → is_text is_document (type_text d) ≡ true → listed d ≡ o → turned d ≡ d
      of_document None named list = no_list d named list
      of_document (Some items) named list = none_in_list d items named list (none items (its_events d items named list))

      by : (b : Bool) → is_text is_document (type_text d) ≡ b → turned d ≡ d
      by true named = of_document (listed d) named refl
      by false other = alone d other ∙ same other

  pub changes_each : ChangesEach change turned
  changes_each = record { events = in_place; type = types; others = others; alone = bare }
