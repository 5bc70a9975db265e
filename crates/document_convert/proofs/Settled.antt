-- A document that has all in place.
use Rattle.std.proofs.Common.{◌≡◌, ℕ, List, [], ◌∷◌, map, Option, Some, None, Ok, codes, Bool, true, false, refl}
use Rattle.std.specs.Prelude.{◌&&◌, bytes_eq, is_none, option_and_then}
use Rattle.std.specs.List.{list_all}
use Rattle.serde_json.specs.Data.{Data, Items}
use Rattle.serde_json.specs.Find.{as_array}
use Rattle.event_json.specs.Checks.{type_text}
use Rattle.event_json.specs.Documents.{event_list, listed}
use Rattle.event_json.specs.Members.{member_named}
use Rattle.event_json.specs.Untraced.{is_text}
use Rattle.document_convert.specs.Types.{missing_type, typed, typed_as}
use Rattle.document_convert.specs.Documents.{are_typed, body_events, document_events, document_in, first_list, is_settled}

-- the text is that of a document
abbrev pub is_document : List ℕ → Bool
is_document text = bytes_eq text (codes "EPCISDocument")

-- its type, its list, and that the events of that are typed
pub record Settled (d : Data) : Type 0 where
  pub text : List ℕ
  pub type : type_text d ≡ Some text
  pub named : is_document text ≡ true
  pub items : Items
  pub list : listed d ≡ Some items
  pub all : are_typed (Some items) ≡ true

pub both_hold : (a b : Bool) → (a && b) ≡ true → (a ≡ true) × (b ≡ true)
both_hold true true is = (refl, refl)
both_hold true false is = cc
both_hold false b is = cc

settled_by : (d : Data) (type : Option (List ℕ)) (list : Option Items) → type_text d ≡ type → listed d ≡ list → is_text is_document type ≡ true → are_typed list ≡ true → Settled d
settled_by d None list t l named all = cc
settled_by d (Some text) None t l named all = cc
settled_by d (Some text) (Some items) t l named all = record { text = text; type = t; named = named; items = items; list = l; all = all }

pub settled : (d : Data) → is_settled d ≡ true → Settled d
unfolding is_settled
settled d is =
    let parts = both_hold (is_text is_document (type_text d)) (are_typed (listed d)) is in
    settled_by d (type_text d) (listed d) refl refl parts.0 parts.1

pub is_so : (d : Data) → Settled d → is_settled d ≡ true
unfolding is_settled
is_so d s = rw (s.type, s.list, s.named, s.all) refl

pub stays : (d : Data) → Settled d → document_in d ≡ Some d
unfolding document_in
stays d s = rw (is_so d s) refl

-- an event whose type isn't missing stays
pub typed_stays : (e : Data) → is_none (missing_type e) ≡ true → typed e ≡ e
typed_stays e is = by (missing_type e) is
  where
    by : (o : Option (List ℕ)) → is_none o ≡ true → typed_as o e ≡ e
    by None is = refl
    by (Some text) is = cc

pub all_stay : (events : List Data) → list_all (λ e. is_none (missing_type e)) events ≡ true → map typed events ≡ events
all_stay [] all = refl
all_stay (e ∷ es) all =
    let parts = both_hold (is_none (missing_type e)) (list_all (λ d. is_none (missing_type d)) es) all in
    λ i. typed_stays e parts.0 i ∷ all_stay es parts.1 i

-- a capture finds the list, and so does a converter
listed_in_body : (d : Data) (items : Items) → listed d ≡ Some items → body_events d ≡ Some items
unfolding listed body_events
listed_in_body d items is = by (member_named (codes "epcisBody") d) is
  where
    list_first : (list event : Option Data) → option_and_then as_array list ≡ Some items → first_list list event ≡ Some items
    list_first None event is = cc
    list_first (Some list) event is = is

    by : (body : Option Data) → option_and_then as_array (option_and_then (member_named (codes "eventList")) body) ≡ Some items
        → option_and_then (λ b. first_list (member_named (codes "eventList") b) (member_named (codes "event") b)) body ≡ Some items
    by None is = cc
    by (Some body) is = list_first (member_named (codes "eventList") body) (member_named (codes "event") body) is

pub settled_list : (d : Data) (s : Settled d) → document_events d ≡ Some s.items
unfolding document_events
settled_list d s = rw (s.type, s.named) (listed_in_body d s.items s.list)

pub settled_events : (d : Data) (s : Settled d) → event_list d ≡ Ok s.items
unfolding event_list
settled_events d s = rw (s.type, s.named, s.list) refl
