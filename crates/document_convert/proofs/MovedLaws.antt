-- What is moved from a list of quantities to a list of items.
use Rattle.std.proofs.Common.{◌≡◌, ℕ, List, [], ◌∷◌, ◌++◌, Contains, Option, Some, None, map, refl, sym, ap, ◌∙◌, subst, arith}
use Rattle.std.specs.Prelude.{option_and_then, option_map}
use Rattle.std.proofs.lemmas.List.{append-nil, length-map, get_or-map}
use Rattle.std.proofs.lemmas.List.Elements.{Contains-append_right}
use Rattle.std.proofs.lemmas.Option.{same_Some}
use Rattle.serde_json.specs.View.{items_of}
use Rattle.event_json.specs.Untraced.{in_order}
use Rattle.serde_json.specs.Data.{Data, null, boolean, number, string, array, object, Items}
use Rattle.serde_json.specs.Find.{get}
use Rattle.serde_json.proofs.Views.{get_member-put}
use Rattle.event_json.specs.Members.{member_named, present}
use Rattle.document_convert.specs.Types.{with_member}
use Rattle.document_convert.specs.Quantities.{and_texts, list_of, lots_of, moved, with_lots, without_member}
use Rattle.document_convert.specs.LotLaws.{IsMoved, LotsAreMoved}
use Rattle.document_convert.proofs.Lists.{items_back, listed_back}
use Rattle.document_convert.proofs.Members.{other_member}
use Rattle.document_convert.proofs.Without.{none_there, others_there}

-- ---- an object without a member

pub absent_without : (name : List ℕ) (d : Data) → get name (without_member name d) ≡ None
absent_without name null = refl
absent_without name (boolean b) = refl
absent_without name (number n) = refl
absent_without name (string s) = refl
absent_without name (array ds) = refl
absent_without name (object ms) = none_there name ms

pub others_without : (q name : List ℕ) (d : Data) → (q ≡ name → ⊥) → get q (without_member name d) ≡ get q d
others_without q name null other = refl
others_without q name (boolean b) other = refl
others_without q name (number n) other = refl
others_without q name (string s) other = refl
others_without q name (array ds) other = refl
others_without q name (object ms) other = others_there q name ms other

-- what has a member is an object, where a member is set
pub set_there : (name q : List ℕ) (x d found : Data) → member_named q d ≡ Some found → get name (with_member name x d) ≡ Some x
set_there name q x null found is = cc
set_there name q x (boolean b) found is = cc
set_there name q x (number n) found is = cc
set_there name q x (string s) found is = cc
set_there name q x (array ds) found is = cc
set_there name q x (object ms) found is = get_member-put name x ms

-- ---- what a list has

pub contains_none : {X : Type 0} (x : X) → Contains [] x → ⊥
contains_none x (k, few, is) = omega (arith, few)

pub contains_mapped : {X Y : Type 0} (f : X → Y) (xs : List X) (x : X) → Contains xs x → Contains (map f xs) (f x)
contains_mapped f xs x (k, few, is) =
    let long = length-map xs f in
    (k, omega (arith, few, long), get_or-map f xs k x (f x) few ∙ ap f is)

pub in_and_texts : (list : Items) (lots : List (List ℕ)) (lot : List ℕ) → Contains lots lot → Contains (in_order (and_texts list lots)) (string lot)
in_and_texts list lots lot has =
    subst (λ ds. Contains ds (string lot)) (sym (listed_back (in_order list ++ map string lots)))
    (Contains-append_right (in_order list) (map string lots) (string lot) (contains_mapped string lots lot has))

-- ---- what is moved

has_lots : (o : Option Data) (lot : List ℕ) (lots : List (List ℕ)) → lots_of o ≡ Some (lot ∷ lots) → (found : Data) × (o ≡ Some found)
has_lots None lot lots is = cc
has_lots (Some found) lot lots is = (found, refl)

pub no_texts : (list : Items) → and_texts list [] ≡ list
no_texts list = ap items_of (append-nil (in_order list)) ∙ items_back list

nothing_moved : (quantities items : List ℕ) (d found : Data) → lots_of (member_named quantities d) ≡ Some [] → found ≡ d → IsMoved quantities items d found
nothing_moved quantities items d found none same = record {
  lots = [];
  each = none;
  behind = λ list is. ap (λ v. list_of (member_named items v)) same ∙ is ∙ ap Some (sym (no_texts list));
  named = λ lot there. absurd (contains_none lot there);
  none_left = ap (λ v. lots_of (member_named quantities v)) same ∙ none;
  others = λ name a b. ap (get name) same;
}

-- an event with an array among its members, and without another member
abbrev without_and_with : List ℕ → List ℕ → Items → Data → Data
without_and_with quantities items list d = without_member quantities (with_member items (array list) d)

list_there : (quantities items : List ℕ) (list : Items) (d there : Data) → (quantities ≡ items → ⊥) → member_named quantities d ≡ Some there
    → list_of (member_named items (without_and_with quantities items list d)) ≡ Some list
list_there quantities items list d there other is =
    let set = others_without items quantities (with_member items (array list) d) (λ e. other (sym e)) ∙ set_there items quantities (array list) d there is in
    ap (λ (o : Option Data). list_of (option_and_then present o)) set

none_left : (quantities : List ℕ) (d : Data) → lots_of (member_named quantities (without_member quantities d)) ≡ Some []
none_left quantities d = ap (λ (o : Option Data). lots_of (option_and_then present o)) (absent_without quantities d)

some_moved : (quantities items : List ℕ) (d found : Data) (list : Items) (lot : List ℕ) (lots : List (List ℕ)) → (quantities ≡ items → ⊥)
    → lots_of (member_named quantities d) ≡ Some (lot ∷ lots) → list_of (member_named items d) ≡ Some list
    → found ≡ without_and_with quantities items (and_texts list (lot ∷ lots)) d → IsMoved quantities items d found
some_moved quantities items d found list lot lots other each is same =
    let there = has_lots (member_named quantities d) lot lots each in
    record {
      lots = lot ∷ lots;
      each = each;
      behind = λ known its.
          ap (λ v. list_of (member_named items v)) same ∙ list_there quantities items (and_texts list (lot ∷ lots)) d there.0 other there.1
          ∙ ap (λ l. Some (and_texts l (lot ∷ lots))) (same_Some _ _ (sym is ∙ its));
      named = λ one has. (
        and_texts list (lot ∷ lots),
        ap (λ v. list_of (member_named items v)) same ∙ list_there quantities items (and_texts list (lot ∷ lots)) d there.0 other there.1,
        in_and_texts list (lot ∷ lots) one has,
      );
      none_left = ap (λ v. lots_of (member_named quantities v)) same ∙ none_left quantities (with_member items (array (and_texts list (lot ∷ lots))) d);
      others = λ name a b. ap (get name) same ∙ others_without name quantities _ a ∙ other_member name items _ d b;
    }

pub are_moved : LotsAreMoved
unfolding moved
are_moved quantities items d found other is = by (lots_of (member_named quantities d)) refl is
  where
    of_list : (lot : List ℕ) (lots : List (List ℕ)) (o : Option Items) → lots_of (member_named quantities d) ≡ Some (lot ∷ lots) → list_of (member_named items d) ≡ o
        → option_map (λ list. without_and_with quantities items (and_texts list (lot ∷ lots)) d) o ≡ Some found → IsMoved quantities items d found
    of_list lot lots None each list e = cc
    of_list lot lots (Some known) each list e = some_moved quantities items d found known lot lots other each list (sym (same_Some _ _ e))

    by : (o : Option (List (List ℕ))) → lots_of (member_named quantities d) ≡ o → option_and_then (with_lots quantities items d) o ≡ Some found → IsMoved quantities items d found
    by None each e = cc
    by (Some []) each e = nothing_moved quantities items d found each (sym (same_Some _ _ e))
    by (Some (lot ∷ lots)) each e = of_list lot lots (list_of (member_named items d)) each refl e
