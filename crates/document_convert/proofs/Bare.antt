-- An event that is a document of its own.
use Rattle.std.proofs.Common.{◌≡◌, ℕ, List, Option, Some, None, Ok, codes, Bool, true, false, refl, sym, ap, ◌∙◌}
use mathlib.Core.Bool.{false≢true}
use Rattle.std.specs.Prelude.{bytes_eq, is_some, option_and_then}
use Rattle.std.proofs.lemmas.Slice.Eq.{bytes_eq-Decides}
use Rattle.serde_json.specs.Data.{Data, no_items, item}
use Rattle.event_json.specs.Checks.{type_named, type_text}
use Rattle.event_json.specs.Documents.{event_list}
use Rattle.document_convert.specs.Types.{is_event, type_told}
use Rattle.document_convert.specs.Documents.{document_events, is_settled}

-- an event type is no type of a document
pub record EventType (text : List ℕ) : Type 0 where
  pub named : is_some (type_named text) ≡ true
  pub no_document : bytes_eq text (codes "EPCISDocument") ≡ false
  pub no_query : bytes_eq text (codes "EPCISQueryDocument") ≡ false

differs : (text name : List ℕ) → is_some (type_named name) ≡ false → is_some (type_named text) ≡ true → bytes_eq text name ≡ false
differs text name other named = by (bytes_eq text name) refl
  where
    by : (b : Bool) → bytes_eq text name ≡ b → b ≡ false
    by false is = refl
    by true is =
        let same : text ≡ name = (bytes_eq-Decides text name).0 is in
        absurd (false≢true (sym other ∙ ap (λ t. is_some (type_named t)) (sym same) ∙ named))

pub event_type : (text : List ℕ) → is_some (type_named text) ≡ true → EventType text
unfolding type_named
event_type text named = record {
  named = named;
  no_document = differs text (codes "EPCISDocument") refl named;
  no_query = differs text (codes "EPCISQueryDocument") refl named;
}

-- the type that it names
pub told_by : (d : Data) → is_event d ≡ true → (text : List ℕ) × (type_told d ≡ Some text) × EventType text
told_by d is = by (type_told d) refl is
  where
    by : (o : Option (List ℕ)) → type_told d ≡ o → is_some (option_and_then type_named o) ≡ true → (text : List ℕ) × (type_told d ≡ Some text) × EventType text
    by None told named = cc
    by (Some text) told named = (text, told, event_type text named)

-- it has no list of events
pub no_list : (d : Data) (text : List ℕ) → type_told d ≡ Some text → EventType text → document_events d ≡ None
unfolding document_events
no_list d text told its = rw (told, its.no_document, its.no_query) refl

pub not_settled : (d : Data) (text : List ℕ) → type_text d ≡ Some text → EventType text → is_settled d ≡ false
unfolding is_settled
not_settled d text type its = rw (type, its.no_document) refl

-- a capture takes it as a list of itself
pub list_of_itself : (d : Data) (text : List ℕ) → type_text d ≡ Some text → EventType text → event_list d ≡ Ok (item d no_items)
unfolding event_list
list_of_itself d text type its = rw (type, its.no_document, its.named) refl
