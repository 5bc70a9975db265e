-- What a capture reads of destinations that became addresses.
use Rattle.std.proofs.Common.{◌≡◌, ℕ, suc, ◌+◌, Contains, Bool, true, false, List, [], ◌∷◌, Option, Some, None, Result, Ok, Err, codes, map, inl, inr, refl, sym, ap, ◌∙◌, ◌⊎◌}
use Rattle.std.specs.Prelude.{⊤, IsSome, bytes_eq, nat_lt, option_and_then, unwrap_or}
use Rattle.std.specs.List.{list_all, list_any}
use Rattle.std.proofs.lemmas.Bool.{and_parts}
use Rattle.std.proofs.lemmas.Slice.Eq.{bytes_eq-Decides}
use Rattle.epc_core.specs.Items.{is_plain}
use Rattle.serde_json.specs.Data.{Data, Members, null, boolean, number, string, array, object, Items, no_items, item}
use Rattle.serde_json.specs.Find.{as_array, as_str}
use Rattle.serde_json.specs.View.{items_of}
use Rattle.serde_json.proofs.Views.{get_member-put}
use Rattle.event_json.specs.Checks.{type_text}
use Rattle.event_json.specs.Faults.{◌>>=◌}
use Rattle.event_json.specs.ItemLists.{destination_of, destinations_of, limit_checked}
use Rattle.event_json.specs.Members.{count_of, each, member_named, or_flaw, plain_of}
use Rattle.event_json.specs.Sites.{AreSites, Site, addressed, is_site}
use Rattle.event_json.specs.Untraced.{in_order}
use Rattle.event_json.specs.declared.doc_faults.DocFaultKind.TheVariants as kinds
use Rattle.event_json.specs.declared.doc_faults.DocField.TheVariants as fields
use Rattle.event_json.specs.declared.doc_faults.Flaw.{Flaw}
use Rattle.event_json.proofs.Apart.{is_some-position}
use Rattle.document_convert.specs.PlaceLaws.{IsAddress, ShipmentsAreTraced}
use Rattle.document_convert.specs.Placed.{destinations, placed_member, with_places}
use Rattle.document_convert.specs.Places.{place_of}
use Rattle.document_convert.specs.Respelled.{is_otherwise, spelled_text}
use Rattle.document_convert.specs.Types.{with_member}
use Rattle.document_convert.proofs.PlacedLaws.{all, has_none, is_array, no_place, objects, one, other_place, same_event, same_place}
use Rattle.document_convert.proofs.PlacesFound.{any_contained, first_or_later, places_are_listed}
use Rattle.document_convert.proofs.MovedLaws.{contains_none}

-- ---- addresses

all_contained : {X : Type 0} (p : X → Bool) (xs : List X) (x : X) → list_all p xs ≡ true → Contains xs x → p x ≡ true
all_contained p [] x all_pass has = absurd (contains_none x has)
all_contained {X = X} p (y ∷ xs) x all_pass has = by (first_or_later y xs x has) (λ later. all_contained p xs x (and_parts (p y) (list_all p xs) all_pass).1 later)
  where
    by : (y ≡ x) ⊎ Contains xs x → (Contains xs x → p x ≡ true) → p x ≡ true
    by (inl same) on = ap p (sym same) ∙ (and_parts (p y) (list_all p xs) all_pass).0
    by (inr later) on = on later

address_plain : (sites : List Site) (a : List ℕ) → AreSites sites → IsAddress sites a → is_plain a ≡ true
address_plain sites a are (s, has, its) =
    all_contained is_plain s.addresses a (and_parts _ _ (all_contained is_site sites s are.good has)).1 its

traced : (sites : List Site) (text a : List ℕ) → place_of sites text ≡ Some a → IsSome (addressed sites a)
unfolding addressed
traced sites text a is =
    let (s, has, its) = (places_are_listed sites text a is).0 in
    let p : Site → Bool = λ s. list_any (λ b. bytes_eq b a) s.addresses in
    is_some-position p sites ∙ any_contained p sites s has (any_contained (λ b. bytes_eq b a) s.addresses a its ((bytes_eq-Decides a a).1 refl))

-- ---- a member of the list

-- where one check after another passes, each does
bound : {A B E : Type 0} (r : Result A E) (g : A → Result B E) (x : B) → (r >>= g) ≡ Ok x → (a : A) × (r ≡ Ok a) × (g a ≡ Ok x)
bound (Ok a) g x is = (a, refl, is)
bound (Err e) g x is = cc

same_Ok : {A E : Type 0} (a b : A) → ◌≡◌ {A = Result A E} (Ok a) (Ok b) → a ≡ b
same_Ok a b is = cc

-- what is read of a member is the text of an object
pub record IsRead (e : Data) (text : List ℕ) : Type 0 where
  pub members : Members
  pub is : e ≡ object members
  pub there : member_named one e ≡ Some (string text)

read_text : (v : Data) (text : List ℕ) → plain_of fields.DestinationList v ≡ Ok text → v ≡ string text
read_text null text is = cc
read_text (boolean b) text is = cc
read_text (number n) text is = cc
read_text (array ds) text is = cc
read_text (object ms) text is = cc
read_text (string s) text is = by (is_plain s) refl
  where
    by : (b : Bool) → is_plain s ≡ b → string s ≡ string text
    by true plain = let same : ◌≡◌ {A = Result (List ℕ) Flaw} (Ok s) (Ok text) = rw plain at is in ap string (same_Ok _ _ same)
    by false plain = let no_text = rw plain at is in cc

is_read : (e : Data) (text : List ℕ) → destination_of e ≡ Ok text → IsRead e text
unfolding destination_of
is_read null text is = cc
is_read (boolean b) text is = cc
is_read (number n) text is = cc
is_read (string s) text is = cc
is_read (array ds) text is = cc
is_read (object ms) text is = by (member_named one (object ms)) refl is
  where
    by : (o : Option Data) → member_named one (object ms) ≡ o
        → (or_flaw (record { field = fields.DestinationList; kind = kinds.Missing }) o >>= λ destination. plain_of fields.DestinationList destination) ≡ Ok text → IsRead (object ms) text
    by None there found = cc
    by (Some v) there found = record { members = ms; is = refl; there = there ∙ ap Some (read_text v text found) }

read_set : (ms : Members) (a : List ℕ) → is_plain a ≡ true → destination_of (with_member one (string a) (object ms)) ≡ Ok a
unfolding destination_of
read_set ms a plain = rw (get_member-put one (string a) ms, plain) refl

count_mapped : (g : Data → Data) (items : Items) → count_of (items_of (map g (in_order items))) ≡ count_of items
count_mapped g no_items = refl
count_mapped g (item d ds) = ap suc (count_mapped g ds)

limit_mapped : (g : Data → Data) (items : Items) (u : ⊤) → limit_checked fields.DestinationList items ≡ Ok u → limit_checked fields.DestinationList (items_of (map g (in_order items))) ≡ Ok tt
unfolding limit_checked
limit_mapped g items u is = by (nat_lt 1000 (count_of items)) refl
  where
    by : (b : Bool) → nat_lt 1000 (count_of items) ≡ b → limit_checked fields.DestinationList (items_of (map g (in_order items))) ≡ Ok tt
    by true more = let no_limit = rw more at is in cc
    by false few = rw (count_mapped g items, few) refl

module _ (sites : List Site) (are : AreSites sites) where
  placed_read : (e : Data) (text : List ℕ) → destination_of e ≡ Ok text → destination_of (placed_member (place_of sites) e) ≡ Ok (spelled_text (place_of sites) text)
  placed_read e text is = by (place_of sites text) refl
    where
      its : IsRead e text
      its = is_read e text is

      of_text : (a : List ℕ) (b : Bool) → place_of sites text ≡ Some a → bytes_eq a text ≡ b → destination_of (placed_member (place_of sites) e) ≡ Ok a
      of_text a true place same =
          ap destination_of (same_place sites e text a (ap (option_and_then as_str) its.there) place same) ∙ is ∙ ap Ok (sym ((bytes_eq-Decides a text).0 same))
      of_text a false place other =
          ap destination_of (other_place sites e text a (ap (option_and_then as_str) its.there) place other)
          ∙ ap (λ v. destination_of (with_member one (string a) v)) its.is
          ∙ read_set its.members a (address_plain sites a are (places_are_listed sites text a place).0)

      by : (o : Option (List ℕ)) → place_of sites text ≡ o → destination_of (placed_member (place_of sites) e) ≡ Ok (spelled_text (place_of sites) text)
      by None none =
          ap destination_of (no_place sites e text (ap (option_and_then as_str) its.there) none) ∙ is ∙ ap (λ (o : Option (List ℕ)). Ok (unwrap_or o text)) (sym none)
      by (Some a) place = of_text a (bytes_eq a text) place refl ∙ ap (λ (o : Option (List ℕ)). Ok (unwrap_or o text)) (sym place)

  each_read : (n : ℕ) (items : Items) (texts : List (List ℕ)) → each (λ _. destination_of) n items ≡ Ok texts
      → each (λ _. destination_of) n (items_of (map (placed_member (place_of sites)) (in_order items))) ≡ Ok (map (spelled_text (place_of sites)) texts)
  each_read n no_items texts is = ap (λ l. Ok (map (spelled_text (place_of sites)) l)) (same_Ok _ _ is)
  each_read n (item d ds) texts is =
      let (text, first, rest) = bound (destination_of d) _ texts is in
      let (more, later, last) = bound (each (λ _. destination_of) (n + 1) ds) _ texts rest in
      rw (placed_read d text first, each_read (n + 1) ds more later) (ap (λ l. Ok (map (spelled_text (place_of sites)) l)) (same_Ok _ _ last))

  -- ---- the list

  none_listed : (d : Data) → type_text d ≡ Some (codes "ObjectEvent") → member_named all d ≡ None → destinations d ≡ None
  unfolding destinations
  none_listed d type none = rw (type, none) refl

  abbrev AreRead : Data → List (List ℕ) → Type 0
  AreRead d texts = destinations_of (with_places sites d) ≡ Ok (map (spelled_text (place_of sites)) texts)

  read : (d : Data) (texts : List (List ℕ)) → type_text d ≡ Some (codes "ObjectEvent") → destinations_of d ≡ Ok texts
      → destinations_of (with_places sites d) ≡ Ok (map (spelled_text (place_of sites)) texts)
  unfolding destinations_of limit_checked
  read d texts type is = by (member_named all d) refl
    where
      of_items : (items : Items) → member_named all d ≡ Some (array items) → (limit_checked fields.DestinationList items >>= λ _. each (λ _. destination_of) 1 items) ≡ Ok texts → AreRead d texts
      of_items items there rest =
          let (u, few, last) = bound (limit_checked fields.DestinationList items) _ texts rest in
          rw ((objects sites d type).list items there, limit_mapped (placed_member (place_of sites)) items u few) (each_read 1 items texts last)

      of_value : (v : Data) (o : Option Items) → member_named all d ≡ Some v → as_array v ≡ o → AreRead d texts
      of_value v None there none = let no_list = rw (there, none) at is in cc
      of_value v (Some items) there list =
          let whole = there ∙ is_array (Some v) items list in
          of_items items whole (rw whole at is)

      by : (o : Option Data) → member_named all d ≡ o → AreRead d texts
      by None none =
          let empty = rw none at is in
          let nothing : [] ≡ texts = same_Ok _ _ empty in
          ap destinations_of (same_event sites d (has_none sites (is_otherwise (place_of sites)) d (none_listed d type none))) ∙ is
          ∙ sym (ap Ok nothing) ∙ ap (λ l. Ok (map (spelled_text (place_of sites)) l)) nothing
      by (Some v) there = of_value v (as_array v) there refl

pub shipments_are_traced : ShipmentsAreTraced
shipments_are_traced = record { read = λ sites d texts are. read sites are d texts; traced = traced }
