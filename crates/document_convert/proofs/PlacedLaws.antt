-- A document with the destinations of its events as addresses of listed sites.
use Rattle.std.proofs.Common.{◌≡◌, ◌⊎◌, ℕ, Contains, Bool, true, false, List, [], ◌∷◌, Option, Some, None, Ok, codes, map, inl, inr, refl, sym, ap, ◌∙◌, subst, if◌then◌else◌}
use mathlib.Core.Bool.{false≢true}
use Rattle.std.specs.Prelude.{bytes_eq, is_some, not, option_and_then}
use Rattle.std.specs.List.{list_any}
use Rattle.std.proofs.lemmas.Option.{same_Some}
use Rattle.std.proofs.lemmas.Slice.Eq.{bytes_eq-Decides}
use Rattle.serde_json.specs.Data.{Data, null, boolean, number, string, array, object, Items, no_items, item}
use Rattle.serde_json.specs.Find.{as_array, as_str, get}
use Rattle.serde_json.specs.View.{items_of}
use Rattle.event_json.specs.Checks.{type_named, type_text}
use Rattle.event_json.specs.Documents.{event_list}
use Rattle.event_json.specs.Members.{member_named, present}
use Rattle.event_json.specs.Sites.{Site}
use Rattle.event_json.specs.Untraced.{in_order, is_text, listed_events}
use Rattle.document_convert.specs.PlaceLaws.{DestinationsArePlaced, DocumentsArePlaced, EventsArePlaced, IsAddress, IsDestination, IsElsewhere, IsPlaced, PlacedStay, SecondPlacesNothing}
use Rattle.document_convert.specs.Placed.{destination_in, destinations, document_with_places, goes_to, has_destination, has_places, placed_in, placed_member, with_places}
use Rattle.document_convert.specs.Places.{place_of}
use Rattle.document_convert.specs.Respelled.{Spelling, is_otherwise}
use Rattle.document_convert.specs.Types.{with_member}
use Rattle.document_convert.proofs.Bare.{event_type, list_of_itself}
use Rattle.document_convert.proofs.Beside.{same_type}
use Rattle.document_convert.proofs.EachLaws.{changes_each, second, unchanged}
use Rattle.document_convert.proofs.Lists.{items_back, listed_back}
use Rattle.document_convert.proofs.Members.{other_member}
use Rattle.document_convert.proofs.MovedLaws.{set_there}
use Rattle.document_convert.proofs.NoLots.{both_none}
use Rattle.document_convert.proofs.PlacesFound.{addresses_stay, contains_first, none_contained, others_have_none, places_are_listed}

-- ---- members

is_string : (o : Option Data) (text : List ℕ) → option_and_then as_str o ≡ Some text → o ≡ Some (string text)
is_string None text is = cc
is_string (Some null) text is = cc
is_string (Some (boolean b)) text is = cc
is_string (Some (number n)) text is = cc
is_string (Some (string s)) text is = ap (λ t. Some (string t)) (same_Some s text is)
is_string (Some (array ds)) text is = cc
is_string (Some (object ms)) text is = cc

pub is_array : (o : Option Data) (items : Items) → option_and_then as_array o ≡ Some items → o ≡ Some (array items)
is_array None items is = cc
is_array (Some null) items is = cc
is_array (Some (boolean b)) items is = cc
is_array (Some (number n)) items is = cc
is_array (Some (string s)) items is = cc
is_array (Some (array ds)) items is = ap (λ i. Some (array i)) (same_Some ds items is)
is_array (Some (object ms)) items is = cc

is_set : (name : List ℕ) (value found d : Data) → member_named name d ≡ Some found → present value ≡ Some value → member_named name (with_member name value d) ≡ Some value
is_set name value found d there whole = ap (option_and_then present) (set_there name name value d found there) ∙ whole

not_not : (b : Bool) → not b ≡ false → b ≡ true
not_not true is = refl
not_not false is = cc

is_named : is_some (type_named (codes "ObjectEvent")) ≡ true
unfolding type_named
is_named = refl

abbrev pub one : List ℕ
one = codes "destination"

abbrev pub all : List ℕ
all = codes "destinationList"

module _ (sites : List Site) where
  abbrev pub f : Spelling
  f = place_of sites

  -- ---- a member of the list

  none_at : (e : Data) → destination_in e ≡ None → placed_member f e ≡ e
  unfolding placed_member
  none_at e is = rw is refl

  pub no_place : (e : Data) (text : List ℕ) → destination_in e ≡ Some text → f text ≡ None → placed_member f e ≡ e
  unfolding placed_member
  no_place e text is none = rw (is, none) refl

  pub same_place : (e : Data) (text a : List ℕ) → destination_in e ≡ Some text → f text ≡ Some a → bytes_eq a text ≡ true → placed_member f e ≡ e
  unfolding placed_member
  same_place e text a is place same = rw (is, place, same) refl

  pub other_place : (e : Data) (text a : List ℕ) → destination_in e ≡ Some text → f text ≡ Some a → bytes_eq a text ≡ false
      → placed_member f e ≡ with_member one (string a) e
  unfolding placed_member
  other_place e text a is place other = rw (is, place, other) refl

  -- a member stays, or has another address
  by_place : (P : Data → Type 0) (e : Data) → P e
      → ((text a : List ℕ) → member_named one e ≡ Some (string text) → f text ≡ Some a → bytes_eq a text ≡ false → P (with_member one (string a) e))
      → P (placed_member f e)
  by_place P e still moved = by (destination_in e) refl
    where
      of_text : (text a : List ℕ) (b : Bool) → destination_in e ≡ Some text → f text ≡ Some a → bytes_eq a text ≡ b → P (placed_member f e)
      of_text text a true is place same = subst P (sym (same_place e text a is place same)) still
      of_text text a false is place other =
          subst P (sym (other_place e text a is place other)) (moved text a (is_string (member_named one e) text is) place other)

      of_place : (text : List ℕ) (o : Option (List ℕ)) → destination_in e ≡ Some text → f text ≡ o → P (placed_member f e)
      of_place text None is none = subst P (sym (no_place e text is none)) still
      of_place text (Some a) is place = of_text text a (bytes_eq a text) is place refl

      by : (o : Option (List ℕ)) → destination_in e ≡ o → P (placed_member f e)
      by None is = subst P (sym (none_at e is)) still
      by (Some text) is = of_place text (f text) is refl

  placed : (e : Data) (text a : List ℕ) → member_named one e ≡ Some (string text) → f text ≡ Some a → member_named one (placed_member f e) ≡ Some (string a)
  placed e text a there place = by (bytes_eq a text) refl
    where
      is : destination_in e ≡ Some text
      is = ap (option_and_then as_str) there

      by : (b : Bool) → bytes_eq a text ≡ b → member_named one (placed_member f e) ≡ Some (string a)
      by true same = ap (member_named one) (same_place e text a is place same) ∙ there ∙ ap (λ t. Some (string t)) (sym ((bytes_eq-Decides a text).0 same))
      by false other = ap (member_named one) (other_place e text a is place other) ∙ is_set one (string a) (string text) e there refl

  stays : (e : Data) → ((text a : List ℕ) → member_named one e ≡ Some (string text) → f text ≡ Some a → a ≡ text) → placed_member f e ≡ e
  stays e same = by_place (λ v. v ≡ e) e refl (λ text a there place other. absurd (false≢true (sym other ∙ (bytes_eq-Decides a text).1 (same text a there place))))

  others : (e : Data) (name : List ℕ) → (name ≡ one → ⊥) → get name (placed_member f e) ≡ get name e
  others e name apart = by_place (λ v. get name v ≡ get name e) e refl (λ text a there place other. other_member name one (string a) e apart)

  -- whether a text is otherwise
  otherwise : (e : Data) (text a : List ℕ) → member_named one e ≡ Some (string text) → f text ≡ Some a → goes_to (is_otherwise f) e ≡ not (bytes_eq a text)
  otherwise e text a there place =
      ap (is_text (is_otherwise f)) (ap (option_and_then as_str) there) ∙ ap (is_text (λ spelled. not (bytes_eq spelled text))) place

  same_member : (e : Data) → goes_to (is_otherwise f) e ≡ false → placed_member f e ≡ e
  same_member e none = stays e (λ text a there place. (bytes_eq-Decides a text).0 (not_not (bytes_eq a text) (sym (otherwise e text a there place) ∙ none)))

  settled_text : (text a : List ℕ) → f text ≡ Some a → is_otherwise f a ≡ false
  settled_text text a is =
      ap (is_text (λ spelled. not (bytes_eq spelled a))) (addresses_stay sites a (places_are_listed sites text a is).0)
      ∙ ap not ((bytes_eq-Decides a a).1 refl)

  settled_member : (e : Data) → goes_to (is_otherwise f) (placed_member f e) ≡ false
  settled_member e = by (goes_to (is_otherwise f) e) refl
    where
      by : (b : Bool) → goes_to (is_otherwise f) e ≡ b → goes_to (is_otherwise f) (placed_member f e) ≡ false
      by false none = ap (goes_to (is_otherwise f)) (same_member e none) ∙ none
      by true some = of_text (destination_in e) refl
        where
          of_place : (text : List ℕ) (o : Option (List ℕ)) → destination_in e ≡ Some text → f text ≡ o → goes_to (is_otherwise f) (placed_member f e) ≡ false
          of_place text None is none = absurd (false≢true (sym (ap (is_text (is_otherwise f)) is ∙ ap (is_text (λ spelled. not (bytes_eq spelled text))) none) ∙ some))
          of_place text (Some a) is place =
              ap (λ (o : Option Data). is_text (is_otherwise f) (option_and_then as_str o)) (placed e text a (is_string (member_named one e) text is) place)
              ∙ settled_text text a place

          of_text : (o : Option (List ℕ)) → destination_in e ≡ o → goes_to (is_otherwise f) (placed_member f e) ≡ false
          of_text None is = absurd (false≢true (sym (ap (is_text (is_otherwise f)) is) ∙ some))
          of_text (Some text) is = of_place text (f text) is refl

  -- ---- the list

  same_members : (es : List Data) → list_any (goes_to (is_otherwise f)) es ≡ false → map (placed_member f) es ≡ es
  same_members [] none = refl
  same_members (e ∷ es) none =
      let parts = both_none (goes_to (is_otherwise f) e) (list_any (goes_to (is_otherwise f)) es) none in
      λ i. same_member e parts.0 i ∷ same_members es parts.1 i

  settled_members : (es : List Data) → list_any (goes_to (is_otherwise f)) (map (placed_member f) es) ≡ false
  settled_members [] = refl
  settled_members (e ∷ es) = rw (settled_member e) (settled_members es)

  -- ---- an event

  placed_event : (d : Data) → has_places sites d ≡ true → with_places sites d ≡ placed_in f d (destinations d)
  unfolding with_places
  placed_event d some = rw some refl

  pub same_event : (d : Data) → has_places sites d ≡ false → with_places sites d ≡ d
  unfolding with_places
  same_event d none = rw none refl

  its_destinations : (d : Data) (items : Items) → type_text d ≡ Some (codes "ObjectEvent") → member_named all d ≡ Some (array items) → destinations d ≡ Some items
  unfolding destinations
  its_destinations d items type list = rw (type, list) refl

  -- what has a list of destinations is an ObjectEvent
  abbrev IsObject : Data → Items → Type 0
  IsObject d items = (type_text d ≡ Some (codes "ObjectEvent")) × (member_named all d ≡ Some (array items))

  is_object : (d : Data) (items : Items) → destinations d ≡ Some items → IsObject d items
  unfolding destinations
  is_object d items is = by (type_text d) refl is
    where
      of_name : (text : List ℕ) (b : Bool) → type_text d ≡ Some text → bytes_eq text (codes "ObjectEvent") ≡ b
          → (if b then option_and_then as_array (member_named all d) else None) ≡ Some items → IsObject d items
      of_name text true type named found = (type ∙ ap Some ((bytes_eq-Decides text (codes "ObjectEvent")).0 named), is_array (member_named all d) items found)
      of_name text false type named found = cc

      by : (o : Option (List ℕ)) → type_text d ≡ o
          → option_and_then (λ type. if bytes_eq type (codes "ObjectEvent") then option_and_then as_array (member_named all d) else None) o ≡ Some items → IsObject d items
      by None type found = cc
      by (Some text) type found = of_name text (bytes_eq text (codes "ObjectEvent")) type refl found

  has_some : (p : List ℕ → Bool) (d : Data) (items : Items) → destinations d ≡ Some items → has_destination p d ≡ list_any (goes_to p) (in_order items)
  unfolding has_destination
  has_some p d items is = rw is refl

  pub has_none : (p : List ℕ → Bool) (d : Data) → destinations d ≡ None → has_destination p d ≡ false
  unfolding has_destination
  has_none p d is = rw is refl

  other_members : (d : Data) (name : List ℕ) → (name ≡ all → ⊥) → get name (with_places sites d) ≡ get name d
  other_members d name apart = by (has_places sites d) refl
    where
      of_list : (o : Option Items) → has_places sites d ≡ true → destinations d ≡ o → get name (with_places sites d) ≡ get name d
      of_list None some is = ap (get name) (placed_event d some ∙ ap (placed_in f d) is)
      of_list (Some items) some is = ap (get name) (placed_event d some ∙ ap (placed_in f d) is) ∙ other_member name all _ d apart

      by : (b : Bool) → has_places sites d ≡ b → get name (with_places sites d) ≡ get name d
      by true some = of_list (destinations d) some refl
      by false none = ap (get name) (same_event d none)

  type_stays : (d : Data) → type_text (with_places sites d) ≡ type_text d
  type_stays d = same_type d (with_places sites d) (other_members d (codes "type") (λ e. cc))

  pub objects : (d : Data) → type_text d ≡ Some (codes "ObjectEvent") → IsPlaced sites d (with_places sites d)
  objects d type = record { list = λ items is. of_list items is (has_places sites d) refl; others = other_members d }
    where
      of_list : (items : Items) → member_named all d ≡ Some (array items) → (b : Bool) → has_places sites d ≡ b
          → member_named all (with_places sites d) ≡ Some (array (items_of (map (placed_member f) (in_order items))))
      of_list items is true some =
          ap (member_named all) (placed_event d some ∙ ap (placed_in f d) (its_destinations d items type is))
          ∙ is_set all (array (items_of (map (placed_member f) (in_order items)))) (array items) d is refl
      of_list items is false none =
          let none_of = sym (has_some (is_otherwise f) d items (its_destinations d items type is)) ∙ none in
          ap (member_named all) (same_event d none) ∙ is
          ∙ ap (λ i. Some (array i)) (sym (ap items_of (same_members (in_order items) none_of) ∙ items_back items))

  not_object : (d : Data) → (type_text d ≡ Some (codes "ObjectEvent") → ⊥) → with_places sites d ≡ d
  not_object d other = by (destinations d) refl
    where
      by : (o : Option Items) → destinations d ≡ o → with_places sites d ≡ d
      by None is = same_event d (has_none (is_otherwise f) d is)
      by (Some items) is = absurd (other (is_object d items is).0)

  settled_event : (d : Data) → has_places sites (with_places sites d) ≡ false
  settled_event d = by (has_places sites d) refl
    where
      of_list : (o : Option Items) → has_places sites d ≡ true → destinations d ≡ o → has_places sites (with_places sites d) ≡ false
      of_list None some is = absurd (false≢true (sym (has_none (is_otherwise f) d is) ∙ some))
      of_list (Some items) some is =
          let (type, list) = is_object d items is in
          let found = map (placed_member f) (in_order items) in
          let its = its_destinations (with_places sites d) (items_of found) (type_stays d ∙ type) ((objects d type).list items list) in
          has_some (is_otherwise f) (with_places sites d) (items_of found) its
          ∙ ap (list_any (goes_to (is_otherwise f))) (listed_back found) ∙ settled_members (in_order items)

      by : (b : Bool) → has_places sites d ≡ b → has_places sites (with_places sites d) ≡ false
      by true some = of_list (destinations d) some refl
      by false none = ap (has_places sites) (same_event d none) ∙ none

  -- ---- a document that stays

  abbrev AllStay : Data → Type 0
  AllStay d = (text : List ℕ) → IsDestination d text → IsAddress sites text ⊎ IsElsewhere sites text

  text_stays : (text : List ℕ) → IsAddress sites text ⊎ IsElsewhere sites text → is_otherwise f text ≡ false
  text_stays text (inl is) = ap (is_text (λ spelled. not (bytes_eq spelled text))) (addresses_stay sites text is) ∙ ap not ((bytes_eq-Decides text text).1 refl)
  text_stays text (inr elsewhere) = ap (is_text (λ spelled. not (bytes_eq spelled text))) (others_have_none sites text elsewhere)

  event_stays : (d e : Data) → AllStay d → Contains (listed_events d) e → has_places sites e ≡ false
  event_stays d e stay has = by (destinations e) refl
    where
      of_text : (items : Items) (one_of : Data) (o : Option (List ℕ)) → IsObject e items → Contains (in_order items) one_of → destination_in one_of ≡ o
          → goes_to (is_otherwise f) one_of ≡ false
      of_text items one_of None of_type its is = ap (is_text (is_otherwise f)) is
      of_text items one_of (Some text) (type, list) its is =
          ap (is_text (is_otherwise f)) is
          ∙ text_stays text (stay text (record {
            event = e;
            is_its = has;
            is_object = type;
            members = items;
            listed = list;
            one = one_of;
            is_listed = its;
            is = is_string (member_named one one_of) text is;
          }))

      by : (o : Option Items) → destinations e ≡ o → has_places sites e ≡ false
      by None is = has_none (is_otherwise f) e is
      by (Some items) is =
          has_some (is_otherwise f) e items is
          ∙ none_contained (goes_to (is_otherwise f)) (in_order items) (λ one_of its. of_text items one_of (destination_in one_of) (is_object e items is) its refl)

  its_events : (d : Data) (items : Items) → event_list d ≡ Ok items → in_order items ≡ listed_events d
  unfolding listed_events
  its_events d items is = rw is refl

  alone_stays : (d : Data) → AllStay d → with_places sites d ≡ d
  alone_stays d stay = by (destinations d) refl
    where
      by : (o : Option Items) → destinations d ≡ o → with_places sites d ≡ d
      by None is = same_event d (has_none (is_otherwise f) d is)
      by (Some items) is =
          let itself = list_of_itself d (codes "ObjectEvent") (is_object d items is).0 (event_type (codes "ObjectEvent") is_named) in
          same_event d (event_stays d d stay (subst (λ es. Contains es d) (its_events d (item d no_items) itself) (contains_first d [])))

  document_stays : (d : Data) → AllStay d → document_with_places sites d ≡ d
  document_stays d stay =
      unchanged (has_places sites) (with_places sites) same_event type_stays d
      (λ items is. none_contained (has_places sites) (in_order items) (λ e has. event_stays d e stay (subst (λ es. Contains es e) (its_events d items is) has)))
      (λ other. alone_stays d stay)

-- ---- the laws

pub destinations_are_placed : DestinationsArePlaced
destinations_are_placed = record { placed = placed; stays = stays; others = others }

pub events_are_placed : EventsArePlaced
events_are_placed = record { objects = objects; others = not_object }

pub documents_are_placed : DocumentsArePlaced
documents_are_placed sites = changes_each (has_places sites) (with_places sites) (same_event sites) (type_stays sites)

pub placed_stay : PlacedStay
placed_stay = document_stays

pub second_places_nothing : SecondPlacesNothing
second_places_nothing = record {
  events = λ sites d. same_event sites (with_places sites d) (settled_event sites d);
  documents = λ sites d. second (has_places sites) (with_places sites) (same_event sites) (type_stays sites) (settled_event sites) d;
}
