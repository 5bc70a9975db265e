-- The parts of an event.
use Rattle.std.proofs.Common.{◌≡◌, ◌⊎◌, ◌≤◌, ℕ, ◌+◌, ◌*◌, Bool, true, false, Contains, List, [], ◌∷◌, Option, Some, None, codes, length, map, max, inl, inr, refl, sym, ap, subst, ◌∙◌, arith, append-nil, if◌then◌else◌}
use Rattle.std.specs.Prelude.{is_some, option_and_then, option_map, unwrap_or}
use Rattle.std.specs.List.{enumerate_from, flat_map}
use Rattle.std.proofs.lemmas.Bool.{ltb-false}
use Rattle.std.proofs.lemmas.List.{take_all}
use Rattle.serde_json.specs.Data.{Data, string, array}
use Rattle.serde_json.specs.Find.{as_str, get}
use Rattle.serde_json.specs.View.{items_of}
use Rattle.event_json.specs.Checks.{type_text}
use Rattle.event_json.specs.Members.{member_named}
use Rattle.event_json.specs.Untraced.{is_text}
use Rattle.document_convert.specs.Parted.{count_at, emptied, event_id, event_parts, has_parts, is_long, is_long_as, listed_parts, made_id, made_in_step, made_of_each, made_part, made_parts, made_with, members_at, numbers, of_each, parts_as, thousand, with_list, with_part_id, with_thousand}
use Rattle.document_convert.specs.PartLaws.{IsInThousands, IsOfType}
use Rattle.document_convert.proofs.Has.{cases, from_flat_map, from_map, none_has}
use Rattle.document_convert.proofs.Members.{other_member}
use Rattle.document_convert.proofs.Beside.{same_member}
use Rattle.document_convert.proofs.PartLemmas.{apart, are_enough, at_most, each_at, enumerate_at, flat_each, from_enumerate, id_others, list_set, members_same, numbered_lists, single_at, thousands_all}

-- ---- parts, or none

abbrev pub unnumbered : Data → List Data
unnumbered d = unwrap_or (option_map (parts_as d) (type_text d)) []

abbrev pub numbered : Data → List Data → List Data
numbered d ps = map (with_part_id (event_id d)) (enumerate_from 1 ps)

pub in_several : (d : Data) → has_parts d ≡ true → event_parts d ≡ numbered d (unnumbered d)
unfolding event_parts
in_several d is = rw is refl

pub in_one : (d : Data) → has_parts d ≡ false → event_parts d ≡ d ∷ []
unfolding event_parts
in_one d is = rw is refl

-- ---- its type

pub type_there : (d : Data) (text : List ℕ) → type_text d ≡ Some text → (v : Data) × (member_named (codes "type") d ≡ Some v)
type_there d text is = by (member_named (codes "type") d) refl is
  where
    by : (o : Option Data) → member_named (codes "type") d ≡ o → option_and_then as_str o ≡ Some text → (v : Data) × (member_named (codes "type") d ≡ Some v)
    by None m i = cc
    by (Some v) m i = (v, m)

pub of_type : (d : Data) (text : List ℕ) → type_text d ≡ Some text → unnumbered d ≡ parts_as d text
of_type d text is = ap (λ (o : Option (List ℕ)). unwrap_or (option_map (parts_as d) o) []) is

pub long_by : (d : Data) (text : List ℕ) → type_text d ≡ Some text → has_parts d ≡ is_long_as d text
unfolding has_parts
long_by d text is = ap (is_text (is_long_as d)) is

-- ---- a list in thousands

-- the nth part has the nth thousand of a list
pub record AreThousands (name : List ℕ) (d : Data) : Type 0 where
  pub f : ℕ → Data
  pub count : ℕ
  pub parts : event_parts d ≡ numbered d (of_each f count)
  pub each : (k : ℕ) → members_at name (f k) ≡ thousand k (members_at name d)
  pub enough : length (members_at name d) ≤ count * 1000
  pub other : name ≡ codes "eventID" → ⊥

pub in_thousands : (name : List ℕ) (d : Data) → AreThousands name d → IsInThousands name d
in_thousands name d a = record {
  all =
      ap (flat_map (members_at name)) a.parts
      ∙ numbered_lists (event_id d) name 1 (of_each a.f a.count) a.other
      ∙ flat_each (members_at name) a.f (members_at name d) a.each 0 a.count
      ∙ thousands_all (members_at name d) a.count a.enough;
  nth = λ e before behind is.
      let r = enumerate_at (with_part_id (event_id d)) 1 (of_each a.f a.count) before behind e (sym a.parts ∙ is) in
      ap (members_at name) (sym r.is)
      ∙ members_same name r.x (with_part_id (event_id d) (1 + length before, r.x)) (id_others (event_id d) (1 + length before) r.x name a.other)
      ∙ ap (members_at name) (sym (each_at a.f a.count r.front r.back r.x r.stands))
      ∙ a.each (length r.front)
      ∙ ap (λ k. thousand k (members_at name d)) r.as_many;
  few = λ e has. few e (from_map (with_part_id (event_id d)) (enumerate_from 1 (of_each a.f a.count)) e (subst (λ es. Contains es e) a.parts has));
}
  where
    few_of : (p : Data) → (k : ℕ) × Contains (numbers 0 a.count) k × (a.f k ≡ p) → length (members_at name p) ≤ 1000
    few_of p (k, its, same) =
        let n : length (members_at name p) ≡ length (thousand k (members_at name d)) = ap length (ap (members_at name) (sym same) ∙ a.each k) in
        let low = at_most k (members_at name d) in
        omega (arith, n, low)

    few : (e : Data) → (x : ℕ × Data) × Contains (enumerate_from 1 (of_each a.f a.count)) x × (with_part_id (event_id d) x ≡ e) → length (members_at name e) ≤ 1000
    few e ((m, p), its, same) =
        let n : length (members_at name e) ≡ length (members_at name p) =
        ap length (ap (members_at name) (sym same) ∙ members_same name p (with_part_id (event_id d) (m, p)) (id_others (event_id d) m p name a.other)) in
        let low = few_of p (from_map a.f (numbers 0 a.count) p (from_enumerate 1 (of_each a.f a.count) m p its)) in
        omega (arith, n, low)

-- an event that stays has at most one thousand
pub stays_in_thousands : (name : List ℕ) (d : Data) → event_parts d ≡ d ∷ [] → length (members_at name d) ≤ 1000 → IsInThousands name d
stays_in_thousands name d is few = record {
  all = ap (flat_map (members_at name)) is ∙ append-nil (members_at name d);
  nth = λ e before behind its. nth e (single_at d e before behind (sym is ∙ its));
  few = λ e has. only e (cases d e [] (subst (λ es. Contains es e) is has));
}
  where
    nth : (e : Data) {before : List Data} → (d ≡ e) × (before ≡ []) → members_at name e ≡ thousand (length before) (members_at name d)
    nth e {before} (same, none) = ap (members_at name) (sym same) ∙ sym (take_all 1000 (members_at name d) few) ∙ sym (ap (λ (b : List Data). thousand (length b) (members_at name d)) none)

    only : (e : Data) → (d ≡ e) ⊎ Contains [] e → length (members_at name e) ≤ 1000
    only e (inl same) = subst (λ x. length (members_at name x) ≤ 1000) same few
    only e (inr none) = absurd (none_has e none)

-- ---- an event with one list

pub one_list : (name : List ℕ) (d v : Data) → member_named (codes "type") d ≡ Some v → (name ≡ codes "eventID" → ⊥) → has_parts d ≡ is_long name d → unnumbered d ≡ listed_parts name d
    → IsInThousands name d
one_list name d v there other long its = by (is_long name d) refl
  where
    by : (b : Bool) → is_long name d ≡ b → IsInThousands name d
    by true is = in_thousands name d (record {
      f = λ k. with_thousand d name k d;
      count = count_at name d;
      parts = in_several d (long ∙ is) ∙ ap (numbered d) its;
      each = λ k. list_set name (thousand k (members_at name d)) d v there;
      enough = are_enough (length (members_at name d));
      other = other;
    })
    by false is = stays_in_thousands name d (in_one d (long ∙ is)) (let few = ltb-false 1000 (length (members_at name d)) is in omega (arith, few))

pub of_objects : (d : Data) → IsOfType (codes "ObjectEvent") d → IsInThousands (codes "epcList") d
of_objects d is =
    let (v, there) = type_there d (codes "ObjectEvent") is in
    one_list (codes "epcList") d v there (apart (codes "epcList") (codes "eventID") refl) (long_by d (codes "ObjectEvent") is) (of_type d (codes "ObjectEvent") is)

pub of_aggregations : (d : Data) → IsOfType (codes "AggregationEvent") d → IsInThousands (codes "childEPCs") d
of_aggregations d is =
    let (v, there) = type_there d (codes "AggregationEvent") is in
    one_list (codes "childEPCs") d v there (apart (codes "childEPCs") (codes "eventID") refl) (long_by d (codes "AggregationEvent") is) (of_type d (codes "AggregationEvent") is)

-- ---- a transformation

abbrev pub ins_at : List ℕ
ins_at = codes "inputEPCList"

abbrev pub outs_at : List ℕ
outs_at = codes "outputEPCList"

-- what the parts have beside their lists
pub emptied_others : (d : Data) (name : List ℕ) → (name ≡ ins_at → ⊥) → (name ≡ outs_at → ⊥) → get name (emptied d) ≡ get name d
emptied_others d name a b = other_member name outs_at (array (items_of [])) (with_list ins_at [] d) b ∙ other_member name ins_at (array (items_of [])) d a

pub made_others : (d : Data) (id : Option (List ℕ)) (name : List ℕ) → (name ≡ ins_at → ⊥) → (name ≡ outs_at → ⊥) → (name ≡ codes "transformationID" → ⊥) → get name (made_with id d) ≡ get name d
made_others d None name a b t = emptied_others d name a b
made_others d (Some id) name a b t = other_member name (codes "transformationID") (string id) (emptied d) t ∙ emptied_others d name a b

pub part_others : (d : Data) (i j : ℕ) (name : List ℕ) → (name ≡ ins_at → ⊥) → (name ≡ outs_at → ⊥) → get name (made_part d i j) ≡ get name (made_with (made_id d) d)
part_others d i j name a b =
    other_member name outs_at (array (items_of (thousand j (members_at outs_at d)))) (with_thousand d ins_at i (made_with (made_id d) d)) b
    ∙ other_member name ins_at (array (items_of (thousand i (members_at ins_at d)))) (made_with (made_id d) d) a

module _ (d v : Data) (there : member_named (codes "type") d ≡ Some v) where
  pub made_type : member_named (codes "type") (made_with (made_id d) d) ≡ Some v
  made_type = same_member (codes "type") d (made_with (made_id d) d) (made_others d (made_id d) (codes "type") (apart (codes "type") ins_at refl) (apart (codes "type") outs_at refl) (apart (codes "type") (codes "transformationID") refl)) ∙ there

  half_type : (i : ℕ) → member_named (codes "type") (with_thousand d ins_at i (made_with (made_id d) d)) ≡ Some v
  half_type i =
      same_member (codes "type") (made_with (made_id d) d) (with_thousand d ins_at i (made_with (made_id d) d))
      (other_member (codes "type") ins_at (array (items_of (thousand i (members_at ins_at d)))) (made_with (made_id d) d) (apart (codes "type") ins_at refl))
      ∙ made_type

  pub part_outs : (i j : ℕ) → members_at outs_at (made_part d i j) ≡ thousand j (members_at outs_at d)
  part_outs i j = list_set outs_at (thousand j (members_at outs_at d)) (with_thousand d ins_at i (made_with (made_id d) d)) v (half_type i)

  pub part_ins : (i j : ℕ) → members_at ins_at (made_part d i j) ≡ thousand i (members_at ins_at d)
  part_ins i j =
      members_same ins_at (with_thousand d ins_at i (made_with (made_id d) d)) (made_part d i j)
      (other_member ins_at outs_at (array (items_of (thousand j (members_at outs_at d)))) (with_thousand d ins_at i (made_with (made_id d) d)) (apart ins_at outs_at refl))
      ∙ list_set ins_at (thousand i (members_at ins_at d)) (made_with (made_id d) d) v made_type

-- a part of a transformation has a thousand of its inputs and one of its outputs
pub some_part : (d p : Data) → Contains (made_parts d) p → (i : ℕ) × (j : ℕ) × (made_part d i j ≡ p)
some_part d p has = by (is_some (made_id d)) has
  where
    of_number : (k : ℕ) × Contains (numbers 0 (max (count_at ins_at d) (count_at outs_at d))) k × (made_part d k k ≡ p) → (i : ℕ) × (j : ℕ) × (made_part d i j ≡ p)
    of_number (k, its, same) = (k, k, same)

    of_second : (i : ℕ) → (j : ℕ) × Contains (numbers 0 (count_at outs_at d)) j × (made_part d i j ≡ p) → (i : ℕ) × (j : ℕ) × (made_part d i j ≡ p)
    of_second i (j, its, same) = (i, j, same)

    of_first : (i : ℕ) × Contains (numbers 0 (count_at ins_at d)) i × Contains (of_each (made_part d i) (count_at outs_at d)) p → (i : ℕ) × (j : ℕ) × (made_part d i j ≡ p)
    of_first (i, its, row) = of_second i (from_map (made_part d i) (numbers 0 (count_at outs_at d)) p row)

    by : (b : Bool) → Contains (if b then made_in_step d else made_of_each d) p → (i : ℕ) × (j : ℕ) × (made_part d i j ≡ p)
    by true h = of_number (from_map (λ k. made_part d k k) (numbers 0 (max (count_at ins_at d) (count_at outs_at d))) p h)
    by false h = of_first (from_flat_map (λ i. of_each (made_part d i) (count_at outs_at d)) (numbers 0 (count_at ins_at d)) p h)
