-- Events that were declared to be errors, kept as if they weren't.
use Rattle.std.proofs.Common.{◌≡◌, ℕ, List, [], ◌∷◌, Bool, true, false, Option, Some, None, Result, Ok, Err, codes, refl, sym, ap, ◌∙◌}
use mathlib.Core.Bool.{false≢true}
use Rattle.std.specs.List.{list_any}
use Rattle.std.specs.Prelude.{bytes_eq, is_some, option_and_then}
use Rattle.serde_json.specs.Data.{Data, Members, object}
use Rattle.serde_json.specs.Find.{as_str, get}
use Rattle.event_json.specs.Checks.{event_type, type_text, without_declaration}
use Rattle.event_json.specs.EventReading.{event_of}
use Rattle.event_json.specs.Laws.{HaveSame, order_of}
use Rattle.event_json.specs.Members.{member_named, present}
use Rattle.event_json.specs.Sites.{Site}
use Rattle.event_json.specs.declared.doc_faults.Flaw.{Flaw}
use Rattle.event_json.specs.declared.event_types.EventType.{EventType}
use Rattle.event_json.specs.declared.event_types.EventType.TheVariants.{Object, Aggregation, Transaction, Transformation, Association}
use Rattle.event_json.proofs.Ordered.{in_order, type_first}
use Rattle.document_convert.specs.DeclaredErrors.{is_declared, undeclared}
use Rattle.document_convert.specs.ErrorLaws.{DeclarationsGo, DocumentsAreKept, OthersStay, ReadAsSaid, SaysWithout, declaration}
use Rattle.document_convert.specs.Quantities.{without, without_member}
use Rattle.document_convert.proofs.EachLaws.{changes_each}
use Rattle.document_convert.proofs.MovedLaws.{absent_without, others_without}
use Rattle.document_convert.proofs.NoLots.{both_none}

-- an event that wasn't declared to be an error stays, and the declaration of any other goes
stays : (d : Data) → is_declared d ≡ false → undeclared d ≡ d
unfolding undeclared
stays d none = rw none refl

goes : (d : Data) → is_declared d ≡ true → undeclared d ≡ without_member declaration d
unfolding undeclared
goes d some = rw some refl

pub others_stay : OthersStay
others_stay e none = stays e (ap is_some none)

-- ---- the members of an event

apart : (name : List ℕ) → bytes_eq name declaration ≡ false → name ≡ declaration → ⊥
apart name differs same = false≢true (sym differs ∙ ap (λ n. bytes_eq n declaration) same)

members : (e : Data) (name : List ℕ) → (name ≡ declaration → ⊥) → get name (undeclared e) ≡ get name e
members e name other = by (is_declared e) refl
  where
    by : (b : Bool) → is_declared e ≡ b → get name (undeclared e) ≡ get name e
    by true is = ap (get name) (goes e is) ∙ others_without name declaration e other
    by false is = ap (get name) (stays e is)

none_left : (e : Data) → member_named declaration (undeclared e) ≡ None
none_left e = by (member_named declaration e) refl
  where
    by : (o : Option Data) → member_named declaration e ≡ o → member_named declaration (undeclared e) ≡ None
    by None is = ap (member_named declaration) (stays e (ap is_some is)) ∙ is
    by (Some value) is = ap (member_named declaration) (goes e (ap is_some is)) ∙ ap (option_and_then present) (absent_without declaration e)

passes : (e : Data) → without_declaration (undeclared e) ≡ Ok tt
unfolding without_declaration
passes e = rw (none_left e) refl

pub declarations_go : DeclarationsGo
declarations_go = record { members = members; none_left = none_left; passes = passes }

-- ---- what a capture reads

type_stays : (d : Data) → type_text (undeclared d) ≡ type_text d
type_stays d = ap (λ (o : Option Data). option_and_then as_str (option_and_then present o)) (members d (codes "type") (apart (codes "type") refl))

-- an object stays one
still_object : (ms : Members) → (found : Members) × (undeclared (object ms) ≡ object found)
still_object ms = by (is_declared (object ms)) refl
  where
    by : (b : Bool) → is_declared (object ms) ≡ b → (found : Members) × (undeclared (object ms) ≡ object found)
    by true is = (without declaration ms, goes (object ms) is)
    by false is = (ms, stays (object ms) is)

typed_alike : (ms ns : Members) → type_text (object ms) ≡ type_text (object ns) → event_type (object ms) ≡ event_type (object ns)
unfolding event_type
typed_alike ms ns same = rw same refl

module _ (e other : Members) (says : SaysWithout e other) where
  abbrev one : Data
  one = undeclared (object e)

  named : (name : List ℕ) → bytes_eq name declaration ≡ false → member_named name one ≡ member_named name (object other)
  named name differs =
      ap (option_and_then present) (members (object e) name (apart name differs)) ∙ sym (says.same name (apart name differs))

  none : member_named declaration one ≡ member_named declaration (object other)
  none = none_left (object e) ∙ sym says.none

  all_of : (names : List (List ℕ)) → list_any (λ name. bytes_eq name declaration) names ≡ false → HaveSame names one (object other)
  all_of [] others = tt
  all_of (name ∷ names) others =
      let parts = both_none (bytes_eq name declaration) (list_any (λ name. bytes_eq name declaration) names) others in
      (named name parts.0, all_of names parts.1)

  -- the declaration is the first of the members that are looked at
  all_named : (its_type : EventType) → HaveSame (order_of its_type) one (object other)
  all_named Object = (
    none,
    all_of (codes "quantityList" ∷ codes "eventID" ∷ codes "eventTime" ∷ codes "eventTimeZoneOffset" ∷ codes "action" ∷ codes "epcList" ∷ codes "destinationList" ∷ [])
        refl,
  )
  all_named Transformation = (
    none,
    all_of (codes "inputQuantityList" ∷ codes "outputQuantityList" ∷ codes "eventID" ∷ codes "eventTime" ∷ codes "eventTimeZoneOffset" ∷ codes "inputEPCList" ∷ codes "outputEPCList" ∷ codes "transformationID" ∷ [])
        refl,
  )
  all_named Aggregation = (
    none,
    all_of (codes "childQuantityList" ∷ codes "eventID" ∷ codes "eventTime" ∷ codes "eventTimeZoneOffset" ∷ codes "action" ∷ codes "parentID" ∷ codes "childEPCs" ∷ [])
        refl,
  )
  all_named Transaction = tt
  all_named Association = tt

  types : event_type one ≡ event_type (object other)
  types =
      let (found, is) = still_object e in
      ap event_type is
      ∙ typed_alike found other
      (ap type_text (sym is) ∙ ap (option_and_then as_str) (named (codes "type") refl))

  pub reads : (sites : List Site) → event_of sites one ≡ event_of sites (object other)
  reads sites = by (event_type (object other)) refl
    where
      by : (r : Result EventType Flaw) → event_type (object other) ≡ r → event_of sites one ≡ event_of sites (object other)
      by (Ok its_type) is =
          (type_first sites one).0 its_type (types ∙ is)
          ∙ (in_order sites its_type).0 one (object other) (all_named its_type)
          ∙ sym ((type_first sites (object other)).0 its_type is)
      by (Err flaw) is = (type_first sites one).1 flaw (types ∙ is) ∙ sym ((type_first sites (object other)).1 flaw is)

pub read_as_said : ReadAsSaid
read_as_said sites e other says = reads e other says sites

-- ---- a document

pub documents_are_kept : DocumentsAreKept
documents_are_kept = changes_each is_declared undeclared stays type_stays
