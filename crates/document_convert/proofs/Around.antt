-- A document that is made of the events of a value has all in place.
use Rattle.std.proofs.Common.{◌≡◌, ℕ, List, [], ◌∷◌, map, Option, Some, None, codes, true, refl, ap, ◌∙◌}
use Rattle.std.specs.Prelude.{is_none}
use Rattle.std.specs.List.{list_all}
use Rattle.serde_json.specs.Data.{Data, null, boolean, number, string, array, object, Items, Members, put}
use Rattle.serde_json.specs.View.{items_of}
use Rattle.serde_json.proofs.Views.{get_member-put, get_member-put_other}
use Rattle.event_json.specs.Checks.{type_text}
use Rattle.event_json.specs.Documents.{listed}
use Rattle.document_convert.specs.Types.{missing_type, typed, typed_as}
use Rattle.document_convert.specs.Documents.{body_of, document_around, document_events}
use Rattle.document_convert.proofs.Lists.{listed_back}
use Rattle.document_convert.proofs.Members.{set_type}
use Rattle.document_convert.proofs.Settled.{Settled}

-- ---- its events

-- an event that was typed has its type
has_type : (e : Data) (text : List ℕ) → missing_type e ≡ Some text → missing_type (typed_as (Some text) e) ≡ None
unfolding missing_type
has_type null text is = cc
has_type (boolean b) text is = cc
has_type (number n) text is = cc
has_type (string s) text is = cc
has_type (array ds) text is = cc
has_type (object ms) text is = rw (get_member-put (codes "type") (string text) ms) refl

pub typed_has : (e : Data) → missing_type (typed e) ≡ None
typed_has e = by (missing_type e) refl
  where
    by : (o : Option (List ℕ)) → missing_type e ≡ o → missing_type (typed_as o e) ≡ None
    by None is = is
    by (Some text) is = has_type e text is

pub all_have : (es : List Data) → list_all (λ e. is_none (missing_type e)) (map typed es) ≡ true
all_have [] = refl
all_have (e ∷ es) = rw (typed_has e) (all_have es)

-- ---- the document

-- what has a list of events is an object
pub is_object : (d : Data) (items : Items) → document_events d ≡ Some items → (ms : Members) × (d ≡ object ms)
unfolding document_events missing_type
is_object null items is = cc
is_object (boolean b) items is = cc
is_object (number n) items is = cc
is_object (string s) items is = cc
is_object (array ds) items is = cc
is_object (object ms) items is = (ms, refl)

apart : codes "type" ≡ codes "epcisBody" → ⊥
apart same = cc

pub around_type : (ms : Members) (es : List Data) → type_text (document_around (object ms) es) ≡ Some (codes "EPCISDocument")
around_type ms es =
    rw (get_member-put_other (codes "type") (codes "epcisBody") (body_of es) (put (codes "type") (string (codes "EPCISDocument")) ms) apart)
    (set_type (codes "EPCISDocument") ms)

pub around_list : (ms : Members) (es : List Data) → listed (document_around (object ms) es) ≡ Some (items_of es)
unfolding listed
around_list ms es = rw (get_member-put (codes "epcisBody") (body_of es) (put (codes "type") (string (codes "EPCISDocument")) ms)) refl

abbrev of_object : (ms : Members) (es : List Data) → list_all (λ e. is_none (missing_type e)) es ≡ true → Settled (document_around (object ms) es)
of_object ms es all = record {
  text = codes "EPCISDocument";
  type = around_type ms es;
  named = refl;
  items = items_of es;
  list = around_list ms es;
  all = ap (list_all (λ e. is_none (missing_type e))) (listed_back es) ∙ all;
}

pub around_settled : (d : Data) (items : Items) (es : List Data) → document_events d ≡ Some items → list_all (λ e. is_none (missing_type e)) es ≡ true
    → (s : Settled (document_around d es)) × (s.items ≡ items_of es)
around_settled d items es is all =
    let object_of = is_object d items is in
    by object_of.0 object_of.1
  where
    by : (ms : Members) → d ≡ object ms → (s : Settled (document_around d es)) × (s.items ≡ items_of es)
    by ms same = rw same (of_object ms es all, refl)
