-- Members that stay where others change.
use Rattle.std.proofs.Common.{◌≡◌, ℕ, List, Contains, Option, Some, None, codes, sym, ap, ◌∙◌, subst}
use Rattle.std.specs.Prelude.{option_and_then}
use Rattle.std.proofs.lemmas.Option.{same_Some}
use Rattle.serde_json.specs.Data.{Data, null, boolean, number, string, array, object, Items, no_items}
use Rattle.serde_json.specs.Find.{as_str, get}
use Rattle.event_json.specs.Checks.{type_text}
use Rattle.event_json.specs.Members.{member_named, present}
use Rattle.event_json.specs.Untraced.{in_order}
use Rattle.document_convert.specs.Quantities.{list_of}
use Rattle.document_convert.specs.LotLaws.{Names, NamesLot}
use Rattle.document_convert.proofs.MovedLaws.{contains_none}

-- ---- members that stay

pub same_member : (name : List ℕ) (d found : Data) → get name found ≡ get name d → member_named name found ≡ member_named name d
same_member name d found is = ap (option_and_then present) is

pub same_type : (d found : Data) → get (codes "type") found ≡ get (codes "type") d → type_text found ≡ type_text d
same_type d found is = ap (option_and_then as_str) (same_member (codes "type") d found is)

pub names_beside : (name text : List ℕ) (d found : Data) → get name found ≡ get name d → Names name text d → Names name text found
names_beside name text d found is (list, its, has) = (list, ap list_of (same_member name d found is) ∙ its, has)

pub lots_beside : (name lot : List ℕ) (d found : Data) → get name found ≡ get name d → NamesLot name lot d → NamesLot name lot found
lots_beside name lot d found is (list, e, its, has, lot_is) = (list, e, same_member name d found is ∙ its, has, lot_is)

-- ---- lists

-- what has an item is an array
pub array_there : (o : Option Data) (list : Items) (text : List ℕ) → list_of o ≡ Some list → Contains (in_order list) (string text) → o ≡ Some (array list)
array_there None list text is has = absurd (contains_none (string text) (subst (λ l. Contains (in_order l) (string text)) (sym (same_Some no_items list is)) has))
array_there (Some null) list text is has = cc
array_there (Some (boolean b)) list text is has = cc
array_there (Some (number n)) list text is has = cc
array_there (Some (string s)) list text is has = cc
array_there (Some (array ds)) list text is has = ap (λ l. Some (array l)) (same_Some ds list is)
array_there (Some (object ms)) list text is has = cc
