-- What is set in an object, and what stays beside it; and the type of an event.
use Rattle.std.proofs.Common.{◌≡◌, ℕ, List, Option, Some, None, codes, refl, sym, ap, ◌∙◌}
use Rattle.std.specs.Prelude.{IsSome, option_and_then}
use Rattle.std.specs.Option.{option_or}
use Rattle.serde_json.specs.Data.{Data, null, boolean, number, string, array, object, Members, put}
use Rattle.serde_json.specs.Find.{as_str, get}
use Rattle.serde_json.proofs.Views.{get_member-put, get_member-put_other}
use Rattle.event_json.specs.Checks.{type_text}
use Rattle.event_json.specs.Members.{member_named}
use Rattle.document_convert.specs.Types.{missing_type, typed, typed_as, with_member}
use Rattle.document_convert.specs.Laws.{MembersAreKept, TypesAreKept, TypesAreTold}

-- the other members stay
pub other_member : (name k : List ℕ) (x d : Data) → (name ≡ k → ⊥) → get name (with_member k x d) ≡ get name d
other_member name k x null other = refl
other_member name k x (boolean b) other = refl
other_member name k x (number n) other = refl
other_member name k x (string s) other = refl
other_member name k x (array ds) other = refl
other_member name k x (object ms) other = get_member-put_other name k x ms other

pub members_are_kept : MembersAreKept
members_are_kept e name other = by (missing_type e)
  where
    by : (o : Option (List ℕ)) → get name (typed_as o e) ≡ get name e
    by None = refl
    by (Some text) = other_member name (codes "type") (string text) e other

-- a type that is there isn't missing
pub not_missing : (e t : Data) → member_named (codes "type") e ≡ Some t → missing_type e ≡ None
unfolding missing_type
not_missing e t there = rw there refl

pub types_are_kept : TypesAreKept
types_are_kept e there = by (member_named (codes "type") e) refl there
  where
    by : (o : Option Data) → member_named (codes "type") e ≡ o → IsSome o → typed e ≡ e
    by (Some t) is some = ap (λ (o : Option (List ℕ)). typed_as o e) (not_missing e t is)
    by None is none = cc

-- and one that is missing isn't there
pub missing_is_absent : (e : Data) (text : List ℕ) → missing_type e ≡ Some text → member_named (codes "type") e ≡ None
unfolding missing_type
missing_is_absent e text is = by (member_named (codes "type") e) refl
  where
    by : (o : Option Data) → member_named (codes "type") e ≡ o → o ≡ None
    by None e = refl
    by (Some t) there = let no : ◌≡◌ {A = Option (List ℕ)} None (Some text) = rw there at is in cc

-- a text that was set is the type
pub set_type : (text : List ℕ) (ms : Members) → type_text (object (put (codes "type") (string text) ms)) ≡ Some text
set_type text ms = rw (get_member-put (codes "type") (string text) ms) refl

told_set : (e : Data) (text : List ℕ) → missing_type e ≡ Some text → type_text (typed_as (Some text) e) ≡ Some text
unfolding missing_type
told_set null text is = cc
told_set (boolean b) text is = cc
told_set (number n) text is = cc
told_set (string s) text is = cc
told_set (array ds) text is = cc
told_set (object ms) text is = set_type text ms

pub types_are_told : TypesAreTold
types_are_told e = by (missing_type e) refl
  where
    kept : (o : Option (List ℕ)) → o ≡ option_or o None
    kept None = refl
    kept (Some text) = refl

    by : (o : Option (List ℕ)) → missing_type e ≡ o → type_text (typed_as o e) ≡ option_or (type_text e) o
    by None is = kept (type_text e)
    by (Some text) is = told_set e text is ∙ ap (λ (o : Option Data). option_or (option_and_then as_str o) (Some text)) (sym (missing_is_absent e text is))
