-- What is left of some room behind several values.
use Rattle.std.proofs.Common.{◌≡◌, ◌<◌, ◌≤◌, ◌+◌, ◌-◌, ℕ, Some, None, List, [], ◌∷◌, ◌++◌, true, false, drop, get_or, if◌then◌else◌, length, string_bytes, sym, take, ◌∙◌, ap, ⊎_elim, arith}
use Rattle.std.proofs.lemmas.List.{drop_more, take-append-drop, take_more}
use Rattle.std.specs.Prelude.{nat_le}
use Rattle.std.proofs.lemmas.Bool.{le-leb, lt-leb}
use Rattle.std.proofs.lemmas.Bool.Decides.{leb_tells}
use Rattle.std.proofs.lemmas.Option.{same_Some}
use Rattle.serde_json.proofs.Views.{Entry}
use Rattle.serde_json.specs.View.{items_view, members_view, view}
use Rattle.serde_json.specs.declared.value.Value.{Value}
use Rattle.document_convert.specs.Weights.{items_weight, members_weight, room_behind, weight, weight_beside, weight_of_other}

fits : (room much : ℕ) → much ≤ room → room_behind room much ≡ Some (room - much)
fits room much h = ap (λ b. if b then Some (room - much) else None) (le-leb much room h)

fits_not : (room much : ℕ) → room < much → room_behind room much ≡ None
fits_not room much h = ap (λ b. if b then Some (room - much) else None) (lt-leb much room h)

module _ (room much : ℕ) where
  abbrev Fits : Type 0
  Fits = (nat_le much room ≡ true) × (much ≤ room)

  abbrev FitsNot : Type 0
  FitsNot = (nat_le much room ≡ false) × (room < much)

  -- so much and more behind it
  pub and_more : (more left : ℕ) → room_behind room much ≡ Some left → room_behind room (much + more) ≡ room_behind left more
  and_more more left is = ⊎_elim
      (λ (yes : Fits).
      let left_is : room - much ≡ left = same_Some (room - much) left (sym (fits room much yes.1) ∙ is) in
      let below : much ≤ room = yes.1 in
      ⊎_elim
      (λ (more_yes : (nat_le more left ≡ true) × (more ≤ left)).
      let more_below : more ≤ left = more_yes.1 in
      fits room (much + more) (omega (arith, left_is, below, more_below)) ∙ ap Some (let z : room - (much + more) ≡ left - more = omega (arith, left_is, below, more_below) in z) ∙ sym (fits left more more_below))
      (λ (more_no : (nat_le more left ≡ false) × (left < more)).
      let above : left < more = more_no.1 in
      fits_not room (much + more) (omega (arith, left_is, below, above)) ∙ sym (fits_not left more above))
      (leb_tells more left))
      (λ (no : FitsNot). absurd (let z : None ≡ Some left = sym (fits_not room much no.1) ∙ is in cc))
      (leb_tells much room)

  -- where so much doesn't fit, no more does
  pub no_more : (more : ℕ) → room_behind room much ≡ None → room_behind room (much + more) ≡ None
  no_more more is = ⊎_elim
      (λ (yes : Fits). absurd (let z : Some (room - much) ≡ None = sym (fits room much yes.1) ∙ is in cc))
      (λ (no : FitsNot). let above : room < much = no.1 in fits_not room (much + more) (omega (arith, above)))
      (leb_tells much room)

pub items_both : (xs ys : List Value) → items_weight (items_view (xs ++ ys)) ≡ items_weight (items_view xs) + items_weight (items_view ys)
items_both [] ys = let z : items_weight (items_view ys) ≡ 0 + items_weight (items_view ys) = omega arith in z
items_both (x ∷ xs) ys =
    let rest = items_both xs ys in
    let z : weight (view x) + items_weight (items_view (xs ++ ys)) ≡ weight (view x) + items_weight (items_view xs) + items_weight (items_view ys) = omega (arith, rest) in z

module _ (room left : ℕ) (xs : List Value) (i : ℕ) (x : Value) (below : i < length xs) (is : x ≡ get_or xs i x) (so_far : room_behind room (items_weight (items_view (take i xs))) ≡ Some left) where
  -- behind one value more
  pub items_more : room_behind room (items_weight (items_view (take (i + 1) xs))) ≡ room_behind left (weight (view x))
  items_more =
      let next : take (i + 1) xs ≡ take i xs ++ x ∷ [] = take_more xs i x below ∙ ap (λ y. take i xs ++ y ∷ []) (sym is) in
      let heavy : items_weight (items_view (take i xs ++ x ∷ [])) ≡ items_weight (items_view (take i xs)) + (weight (view x) + 0) = items_both (take i xs) (x ∷ []) in
      let plain : weight (view x) + 0 ≡ weight (view x) = omega arith in
      ap (λ ys. room_behind room (items_weight (items_view ys))) next ∙ ap (room_behind room) heavy ∙ and_more room (items_weight (items_view (take i xs))) (weight (view x) + 0) left so_far ∙ ap (room_behind left) plain

  -- where it doesn't fit, all don't
  pub items_none : room_behind left (weight (view x)) ≡ None → room_behind room (items_weight (items_view xs)) ≡ None
  items_none none =
      let rest = drop (i + 1) xs in
      let all : xs ≡ take i xs ++ x ∷ rest = sym (take-append-drop i xs) ∙ ap (λ ys. take i xs ++ ys) (drop_more xs i x below ∙ ap (λ y. y ∷ rest) (sym is)) in
      ap (λ ys. room_behind room (items_weight (items_view ys))) all ∙ ap (room_behind room) (items_both (take i xs) (x ∷ rest))
      ∙ and_more room (items_weight (items_view (take i xs))) (weight (view x) + items_weight (items_view rest)) left so_far ∙ no_more left (weight (view x)) (items_weight (items_view rest)) none

pub members_both : (xs ys : List Entry) → members_weight (members_view (xs ++ ys)) ≡ members_weight (members_view xs) + members_weight (members_view ys)
members_both [] ys = let z : members_weight (members_view ys) ≡ 0 + members_weight (members_view ys) = omega arith in z
members_both (x ∷ xs) ys =
    let rest = members_both xs ys in
    let z : length (string_bytes x.0) + (weight (view x.1) + members_weight (members_view (xs ++ ys))) ≡ length (string_bytes x.0) + (weight (view x.1) + members_weight (members_view xs)) + members_weight (members_view ys) = omega (arith, rest) in z

module _ (room left : ℕ) (done : List Entry) (e : Entry) (so_far : room_behind room (members_weight (members_view done)) ≡ Some left) where
  abbrev named : ℕ
  named = length (string_bytes e.0)

  -- behind one member more: its name, and then its value
  pub members_more : (mid : ℕ) → room_behind left named ≡ Some mid → room_behind room (members_weight (members_view (done ++ e ∷ []))) ≡ room_behind mid (weight (view e.1))
  members_more mid name =
      let plain : weight (view e.1) + 0 ≡ weight (view e.1) = omega arith in
      ap (room_behind room) (members_both done (e ∷ [])) ∙ and_more room (members_weight (members_view done)) (named + (weight (view e.1) + 0)) left so_far
      ∙ and_more left named (weight (view e.1) + 0) mid name ∙ ap (room_behind mid) plain

  module _ (all rest : List Entry) (is : all ≡ done ++ e ∷ rest) where
    whole : room_behind room (members_weight (members_view all)) ≡ room_behind left (named + (weight (view e.1) + members_weight (members_view rest)))
    whole = ap (λ es. room_behind room (members_weight (members_view es))) is ∙ ap (room_behind room) (members_both done (e ∷ rest))
        ∙ and_more room (members_weight (members_view done)) (named + (weight (view e.1) + members_weight (members_view rest))) left so_far

    pub name_none : room_behind left named ≡ None → room_behind room (members_weight (members_view all)) ≡ None
    name_none none = whole ∙ no_more left named (weight (view e.1) + members_weight (members_view rest)) none

    pub member_none : (mid : ℕ) → room_behind left named ≡ Some mid → room_behind mid (weight (view e.1)) ≡ None → room_behind room (members_weight (members_view all)) ≡ None
    member_none mid name none = whole ∙ and_more left named (weight (view e.1) + members_weight (members_view rest)) mid name ∙ no_more mid (weight (view e.1)) (members_weight (members_view rest)) none

module _ (one other : List ℕ) where
  abbrev beside : List Entry → ℕ
  beside es = weight_beside one other (members_view es)

  abbrev apart : Entry → ℕ
  apart e = weight_of_other one other (string_bytes e.0) (view e.1)

  beside_both : (xs ys : List Entry) → beside (xs ++ ys) ≡ beside xs + beside ys
  beside_both [] ys = let z : beside ys ≡ 0 + beside ys = omega arith in z
  beside_both (x ∷ xs) ys =
      let rest = beside_both xs ys in
      let z : apart x + beside (xs ++ ys) ≡ apart x + beside xs + beside ys = omega (arith, rest) in z

  module _ (room left : ℕ) (done : List Entry) (e : Entry) (so_far : room_behind room (beside done) ≡ Some left) where
    -- behind one member more
    pub beside_more : room_behind room (beside (done ++ e ∷ [])) ≡ room_behind left (apart e)
    beside_more =
        let plain : apart e + 0 ≡ apart e = omega arith in
        ap (room_behind room) (beside_both done (e ∷ [])) ∙ and_more room (beside done) (apart e + 0) left so_far ∙ ap (room_behind left) plain

    pub beside_none : (all rest : List Entry) → all ≡ done ++ e ∷ rest → room_behind left (apart e) ≡ None → room_behind room (beside all) ≡ None
    beside_none all rest is none =
        ap (λ es. room_behind room (beside es)) is ∙ ap (room_behind room) (beside_both done (e ∷ rest))
        ∙ and_more room (beside done) (apart e + beside rest) left so_far ∙ no_more left (apart e) (beside rest) none
