-- Nothing gets lost in parts, and each input still leads to each output.
use Rattle.std.proofs.Common.{◌≡◌, ◌⊎◌, ◌≤◌, ℕ, ◌*◌, Bool, true, false, Contains, List, [], ◌∷◌, ◌++◌, Option, Some, None, bytes_eq, codes, length, max, inl, inr, refl, sym, ap, subst, ◌∙◌, arith, if◌then◌else◌}
use Rattle.std.specs.Prelude.{◌||◌, IsSome, is_some, nat_le, option_and_then}
use Rattle.std.specs.List.{enumerate_from}
use Rattle.std.proofs.lemmas.Bool.{le-leb, leb-true, lt-ltb}
use Rattle.std.proofs.lemmas.Slice.Eq.{bytes_eq-Decides}
use Rattle.serde_json.specs.Data.{Data, null, boolean, number, string, array, object}
use Rattle.serde_json.specs.Find.{as_str, get}
use Rattle.serde_json.specs.View.{items_of}
use Rattle.event_json.specs.Checks.{type_text}
use Rattle.event_json.specs.Members.{member_named, present}
use Rattle.event_json.specs.Untraced.{is_text}
use Rattle.document_convert.specs.LotEvents.{short}
use Rattle.document_convert.specs.Parted.{count_at, emptied, event_id, event_parts, has_parts, id_made, is_long, is_long_as, listed_parts, made_id, made_in_step, made_of_each, made_part, made_parts, made_with, members_at, numbers, of_each, thousand, thousands, with_part_id, with_thousand}
use Rattle.document_convert.specs.PartLaws.{Has, HasFewPairs, IsInThousands, IsLong, IsLongMake, IsMadeAs, IsOfType, ListsAreParted, MakesStayWhole, NoneIsEmpty, OthersAreKept}
use Rattle.document_convert.specs.Quantities.{list_of}
use Rattle.document_convert.proofs.Beside.{same_member}
use Rattle.document_convert.proofs.EventParts.{emptied_others, in_one, in_several, in_thousands, ins_at, long_by, made_others, numbered, of_aggregations, of_objects, of_type, outs_at, part_ins, part_others, part_outs, some_part, type_there, unnumbered}
use Rattle.document_convert.proofs.Has.{cases, from_flat_map, from_map, has_flat_map, has_map, none_has}
use Rattle.document_convert.proofs.Members.{other_member}
use Rattle.document_convert.proofs.MovedLaws.{set_there}
use Rattle.document_convert.proofs.PartLemmas.{apart, are_enough, at_most, from_enumerate, has_enumerate, id_others, in_thousand, list_set, members_same, some_there, thousands_all}

-- ---- the identifier of a transformation

short_enough : (text : List ℕ) → length text ≤ 512 → short text ≡ Some text
short_enough text few = rw (le-leb (length text) 512 few) refl

pub made_as : (d : Data) (id : List ℕ) → IsMadeAs id d → made_id d ≡ Some id
made_as d id (inl own) = ap (λ (o : Option Data). id_made o (event_id d)) own
made_as d id (inr (own, none, event, few, is)) =
    ap (λ (o : Option Data). id_made o (event_id d)) none
    ∙ ap (λ (o : Option Data). option_and_then (λ t. short (t ++ codes "#made")) (option_and_then as_str o)) event
    ∙ short_enough (own ++ codes "#made") few
    ∙ ap Some (sym is)

text_of : (v : Data) (t : List ℕ) → as_str v ≡ Some t → v ≡ string t
text_of null t is = cc
text_of (boolean b) t is = cc
text_of (number n) t is = cc
text_of (string s) t is = let same : s ≡ t = cc in ap string same
text_of (array ds) t is = cc
text_of (object ms) t is = cc

from_made : (d : Data) (id : List ℕ) → made_id d ≡ Some id → IsMadeAs id d
from_made d id is = by (member_named (codes "transformationID") d) refl is
  where
    of_short : (own : List ℕ) (b : Bool) → nat_le (length (own ++ codes "#made")) 512 ≡ b → (if b then Some (own ++ codes "#made") else None) ≡ Some id
        → (length (own ++ codes "#made") ≤ 512) × (id ≡ own ++ codes "#made")
    of_short own true few i = let same : id ≡ own ++ codes "#made" = cc in (leb-true (length (own ++ codes "#made")) 512 few, same)
    of_short own false few i = cc

    of_event : (o : Option Data) → member_named (codes "transformationID") d ≡ None → member_named (codes "eventID") d ≡ o
        → option_and_then (λ t. short (t ++ codes "#made")) (option_and_then as_str o) ≡ Some id → IsMadeAs id d
    of_event None none m i = cc
    of_event (Some v) none m i = of_text (as_str v) refl i
      where
        of_text : (t : Option (List ℕ)) → as_str v ≡ t → option_and_then (λ t. short (t ++ codes "#made")) t ≡ Some id → IsMadeAs id d
        of_text None e j = cc
        of_text (Some own) e j =
            let (few, same) = of_short own (nat_le (length (own ++ codes "#made")) 512) refl j in
            inr (own, none, m ∙ ap Some (text_of v own e), few, same)

    by : (o : Option Data) → member_named (codes "transformationID") d ≡ o → id_made o (event_id d) ≡ Some id → IsMadeAs id d
    by None m i = of_event (member_named (codes "eventID") d) m refl i
    by (Some v) m i = inl (m ∙ ap Some (text_of v id i))

-- ---- which transformations have parts

some_is : {X : Type 0} (o : Option X) → IsSome o → is_some o ≡ true
some_is (Some x) some = refl
some_is None some = cc

one_long : (d : Data) → IsLong ins_at d ⊎ IsLong outs_at d → (is_long ins_at d || is_long outs_at d) ≡ true
one_long d (inl more) = rw (lt-ltb 1000 (length (members_at ins_at d)) more) refl
one_long d (inr more) = by (is_long ins_at d) (lt-ltb 1000 (length (members_at outs_at d)) more)
  where
    by : (b : Bool) {c : Bool} → c ≡ true → (b || c) ≡ true
    by true e = refl
    by false e = e

long_make : (d : Data) → IsLongMake d → has_parts d ≡ (is_some (made_id d) || nat_le (count_at ins_at d * count_at outs_at d) 1000)
long_make d its =
    long_by d (codes "TransformationEvent") its.type
    ∙ rw (some_is (list_of (member_named ins_at d)) its.ins, some_is (list_of (member_named outs_at d)) its.outs, one_long d its.long) refl

with_made_id : (d : Data) (id : List ℕ) → IsLongMake d → IsMadeAs id d → has_parts d ≡ true
with_made_id d id its made = long_make d its ∙ rw (made_as d id made) refl

parts_made : (d : Data) → IsOfType (codes "TransformationEvent") d → unnumbered d ≡ made_parts d
parts_made d is = of_type d (codes "TransformationEvent") is

in_step : (d : Data) (id : List ℕ) → IsLongMake d → IsMadeAs id d → event_parts d ≡ numbered d (made_in_step d)
in_step d id its made = in_several d (with_made_id d id its made) ∙ ap (numbered d) (parts_made d its.type ∙ rw (made_as d id made) refl)

of_inputs : (d : Data) (id : List ℕ) → IsLongMake d → IsMadeAs id d → IsInThousands (codes "inputEPCList") d
of_inputs d id its made =
    let (v, there) = type_there d (codes "TransformationEvent") its.type in
    let all = are_enough (length (members_at ins_at d)) in
    in_thousands ins_at d (record {
      f = λ k. made_part d k k;
      count = max (count_at ins_at d) (count_at outs_at d);
      parts = in_step d id its made;
      each = λ k. part_ins d v there k k;
      enough = omega (arith, all);
      other = apart ins_at (codes "eventID") refl;
    })

of_outputs : (d : Data) (id : List ℕ) → IsLongMake d → IsMadeAs id d → IsInThousands (codes "outputEPCList") d
of_outputs d id its made =
    let (v, there) = type_there d (codes "TransformationEvent") its.type in
    let all = are_enough (length (members_at outs_at d)) in
    in_thousands outs_at d (record {
      f = λ k. made_part d k k;
      count = max (count_at ins_at d) (count_at outs_at d);
      parts = in_step d id its made;
      each = λ k. part_outs d v there k k;
      enough = omega (arith, all);
      other = apart outs_at (codes "eventID") refl;
    })

-- ---- a part, and what it was before it was numbered

pub record IsPart (d e : Data) : Type 0 where
  pub n : ℕ
  pub p : Data
  pub of : Contains (unnumbered d) p
  pub is : with_part_id (event_id d) (n, p) ≡ e

pub from_parts : (d e : Data) → has_parts d ≡ true → Contains (event_parts d) e → IsPart d e
from_parts d e long has = by (from_map (with_part_id (event_id d)) (enumerate_from 1 (unnumbered d)) e (subst (λ es. Contains es e) (in_several d long) has))
  where
    by : (x : ℕ × Data) × Contains (enumerate_from 1 (unnumbered d)) x × (with_part_id (event_id d) x ≡ e) → IsPart d e
    by ((n, p), its, same) = record { n = n; p = p; of = from_enumerate 1 (unnumbered d) n p its; is = same }

pub to_parts : (d p : Data) → has_parts d ≡ true → Contains (unnumbered d) p → (n : ℕ) × Contains (event_parts d) (with_part_id (event_id d) (n, p))
to_parts d p long has =
    let (n, its) = has_enumerate 1 (unnumbered d) p has in
    (n, subst (λ es. Contains es (with_part_id (event_id d) (n, p))) (sym (in_several d long)) (has_map (with_part_id (event_id d)) (enumerate_from 1 (unnumbered d)) (n, p) its))

-- what no number changes
pub beside_id : (d e : Data) (q : IsPart d e) (name : List ℕ) → (name ≡ codes "eventID" → ⊥) → get name e ≡ get name q.p
beside_id d e q name other = ap (get name) (sym q.is) ∙ id_others (event_id d) q.n q.p name other

-- where each part before it is numbered has a member of the event, each part has it
kept : (d e : Data) (name : List ℕ) → (name ≡ codes "eventID" → ⊥) → ((p : Data) → Contains (unnumbered d) p → get name p ≡ get name d) → Contains (event_parts d) e → get name e ≡ get name d
kept d e name other each has = by (has_parts d) refl
  where
    only : (d ≡ e) ⊎ Contains [] e → get name e ≡ get name d
    only (inl same) = ap (get name) (sym same)
    only (inr none) = absurd (none_has e none)

    by : (b : Bool) → has_parts d ≡ b → get name e ≡ get name d
    by true is = let q = from_parts d e is has in beside_id d e q name other ∙ each q.p q.of
    by false is = only (cases d e [] (subst (λ es. Contains es e) (in_one d is) has))

-- no part of a long list is empty
none_empty : (name : List ℕ) (d v : Data) → member_named (codes "type") d ≡ Some v → (name ≡ codes "eventID" → ⊥) → has_parts d ≡ is_long name d → unnumbered d ≡ listed_parts name d → NoneIsEmpty name d
none_empty name d v there other long its e more has =
    let q = from_parts d e (long ∙ lt-ltb 1000 (length (members_at name d)) more) has in
    let (k, some, same) = from_map (λ j. with_thousand d name j d) (numbers 0 (count_at name d)) q.p (subst (λ ps. Contains ps q.p) its q.of) in
    let full = some_there (members_at name d) k (omega (arith, more)) some in
    let n : length (members_at name e) ≡ length (thousand k (members_at name d)) =
    ap length (members_same name q.p e (beside_id d e q name other) ∙ ap (members_at name) (sym same) ∙ list_set name (thousand k (members_at name d)) d v there) in
    omega (arith, n, full)

objects_full : (d : Data) → IsOfType (codes "ObjectEvent") d → NoneIsEmpty (codes "epcList") d
objects_full d is =
    let (v, there) = type_there d (codes "ObjectEvent") is in
    none_empty (codes "epcList") d v there (apart (codes "epcList") (codes "eventID") refl) (long_by d (codes "ObjectEvent") is) (of_type d (codes "ObjectEvent") is)

aggregations_full : (d : Data) → IsOfType (codes "AggregationEvent") d → NoneIsEmpty (codes "childEPCs") d
aggregations_full d is =
    let (v, there) = type_there d (codes "AggregationEvent") is in
    none_empty (codes "childEPCs") d v there (apart (codes "childEPCs") (codes "eventID") refl) (long_by d (codes "AggregationEvent") is) (of_type d (codes "AggregationEvent") is)

pub lists_are_parted : ListsAreParted
lists_are_parted = record {
  objects = λ d is. (of_objects d is, objects_full d is);
  aggregations = λ d is. (of_aggregations d is, aggregations_full d is);
  inputs = of_inputs;
  outputs = of_outputs;
}

-- of one list
pub listed_kept : (name q : List ℕ) (d p : Data) → (q ≡ name → ⊥) → Contains (listed_parts name d) p → get q p ≡ get q d
listed_kept name q d p other has =
    let (k, its, same) = from_map _ (numbers 0 (count_at name d)) p has in
    ap (get q) (sym same) ∙ other_member q name (array (items_of (thousand k (members_at name d)))) d other

pub made_kept : (q : List ℕ) (d p : Data) → (q ≡ ins_at → ⊥) → (q ≡ outs_at → ⊥) → (q ≡ codes "transformationID" → ⊥) → Contains (made_parts d) p → get q p ≡ get q d
made_kept q d p a b t has =
    let (i, j, same) = some_part d p has in
    ap (get q) (sym same) ∙ part_others d i j q a b ∙ made_others d (made_id d) q a b t

objects_kept : (d e : Data) (name : List ℕ) → IsOfType (codes "ObjectEvent") d → Contains (event_parts d) e
    → (name ≡ codes "epcList" → ⊥) → (name ≡ codes "eventID" → ⊥) → get name e ≡ get name d
objects_kept d e name is has a b =
    kept d e name b (λ p its. listed_kept (codes "epcList") name d p a (subst (λ ps. Contains ps p) (of_type d (codes "ObjectEvent") is) its)) has

aggregations_kept : (d e : Data) (name : List ℕ) → IsOfType (codes "AggregationEvent") d → Contains (event_parts d) e
    → (name ≡ codes "childEPCs" → ⊥) → (name ≡ codes "eventID" → ⊥) → get name e ≡ get name d
aggregations_kept d e name is has a b =
    kept d e name b (λ p its. listed_kept (codes "childEPCs") name d p a (subst (λ ps. Contains ps p) (of_type d (codes "AggregationEvent") is) its)) has

transformations_kept : (d e : Data) (name : List ℕ) → IsOfType (codes "TransformationEvent") d → Contains (event_parts d) e
    → (name ≡ codes "inputEPCList" → ⊥) → (name ≡ codes "outputEPCList" → ⊥) → (name ≡ codes "transformationID" → ⊥) → (name ≡ codes "eventID" → ⊥)
    → get name e ≡ get name d
transformations_kept d e name is has a b t i =
    kept d e name i (λ p its. made_kept name d p a b t (subst (λ ps. Contains ps p) (parts_made d is) its)) has

-- an event of another type has no parts
no_parts : (d : Data) → (IsOfType (codes "ObjectEvent") d → ⊥) → (IsOfType (codes "AggregationEvent") d → ⊥) → (IsOfType (codes "TransformationEvent") d → ⊥) → has_parts d ≡ false
unfolding has_parts
no_parts d o a t = by (type_text d) refl
  where
    differs : (text name : List ℕ) → type_text d ≡ Some text → (IsOfType name d → ⊥) → bytes_eq text name ≡ false
    differs text name is other = of_eq (bytes_eq text name) refl
      where
        of_eq : (b : Bool) → bytes_eq text name ≡ b → b ≡ false
        of_eq true e = absurd (other (is ∙ ap Some ((bytes_eq-Decides text name).0 e)))
        of_eq false e = refl

    by : (o : Option (List ℕ)) → type_text d ≡ o → is_text (is_long_as d) o ≡ false
    by None is = refl
    by (Some text) is = rw (differs text (codes "ObjectEvent") is o, differs text (codes "AggregationEvent") is a, differs text (codes "TransformationEvent") is t) refl

pub others_are_kept : OthersAreKept
others_are_kept = record {
  objects = objects_kept;
  aggregations = aggregations_kept;
  transformations = transformations_kept;
  types = λ d o a t. in_one d (no_parts d o a t);
}

-- ---- transformations

abbrev make_id : List ℕ
make_id = codes "transformationID"

-- each part of a transformation has a thousand of both
pub record IsMadePart (d e : Data) : Type 0 where
  pub i : ℕ
  pub j : ℕ
  pub ins : members_at ins_at e ≡ thousand i (members_at ins_at d)
  pub outs : members_at outs_at e ≡ thousand j (members_at outs_at d)
  pub id : get make_id e ≡ get make_id (made_with (made_id d) d)

-- what no number changes of a part
beside_part : (d e p : Data) (i j : ℕ) → made_part d i j ≡ p → (n : ℕ) → with_part_id (event_id d) (n, p) ≡ e → (name : List ℕ) → (name ≡ codes "eventID" → ⊥) → get name e ≡ get name (made_part d i j)
beside_part d e p i j same n is name other = ap (get name) (sym is) ∙ id_others (event_id d) n p name other ∙ ap (get name) (sym same)

its_ins : (d e p : Data) → IsOfType (codes "TransformationEvent") d → (i j : ℕ) → made_part d i j ≡ p → (n : ℕ) → with_part_id (event_id d) (n, p) ≡ e
    → members_at ins_at e ≡ thousand i (members_at ins_at d)
its_ins d e p type i j same n is =
    let (v, there) = type_there d (codes "TransformationEvent") type in
    members_same ins_at (made_part d i j) e (beside_part d e p i j same n is ins_at (apart ins_at (codes "eventID") refl)) ∙ part_ins d v there i j

its_outs : (d e p : Data) → IsOfType (codes "TransformationEvent") d → (i j : ℕ) → made_part d i j ≡ p → (n : ℕ) → with_part_id (event_id d) (n, p) ≡ e
    → members_at outs_at e ≡ thousand j (members_at outs_at d)
its_outs d e p type i j same n is =
    let (v, there) = type_there d (codes "TransformationEvent") type in
    members_same outs_at (made_part d i j) e (beside_part d e p i j same n is outs_at (apart outs_at (codes "eventID") refl)) ∙ part_outs d v there i j

made_from : (d e p : Data) → IsOfType (codes "TransformationEvent") d → (i j : ℕ) → made_part d i j ≡ p → (n : ℕ) → with_part_id (event_id d) (n, p) ≡ e → IsMadePart d e
made_from d e p type i j same n is = record {
  i = i;
  j = j;
  ins = its_ins d e p type i j same n is;
  outs = its_outs d e p type i j same n is;
  id = beside_part d e p i j same n is make_id (apart make_id (codes "eventID") refl) ∙ part_others d i j make_id (apart make_id ins_at refl) (apart make_id outs_at refl);
}

made_by : (d e : Data) → IsOfType (codes "TransformationEvent") d → has_parts d ≡ true → Contains (event_parts d) e → IsMadePart d e
made_by d e type long has =
    let q = from_parts d e long has in
    let (i, j, same) = some_part d q.p (subst (λ ps. Contains ps q.p) (parts_made d type) q.of) in
    made_from d e q.p type i j same q.n q.is

one_make : (d e : Data) (id : List ℕ) → IsLongMake d → IsMadeAs id d → Contains (event_parts d) e → member_named make_id e ≡ Some (string id)
one_make d e id its made has =
    let (v, there) = type_there d (codes "TransformationEvent") its.type in
    let m = made_by d e its.type (with_made_id d id its made) has in
    let type : member_named (codes "type") (emptied d) ≡ Some v = same_member (codes "type") d (emptied d) (emptied_others d (codes "type") (apart (codes "type") ins_at refl) (apart (codes "type") outs_at refl)) ∙ there in
    ap (option_and_then present)
    (m.id ∙ ap (λ (o : Option (List ℕ)). get make_id (made_with o d)) (made_as d id made) ∙ set_there make_id (codes "type") (string id) (emptied d) v type)

no_id : (d : Data) → ((id : List ℕ) → IsMadeAs id d → ⊥) → made_id d ≡ None
no_id d none = by (made_id d) refl
  where
    by : (o : Option (List ℕ)) → made_id d ≡ o → o ≡ None
    by None is = refl
    by (Some id) is = absurd (none id (from_made d id is))

-- a member of a list stands in one of its thousands
in_some : (xs : List Data) (x : Data) → Contains xs x → (k : ℕ) × Contains (numbers 0 (thousands (length xs))) k × Contains (thousand k xs) x
in_some xs x has =
    from_flat_map (λ k. thousand k xs) (numbers 0 (thousands (length xs))) x
    (subst (λ ys. Contains ys x) (sym (thousands_all xs (thousands (length xs)) (are_enough (length xs)))) has)

abbrev StandTogether : Data → Data → Data → Type 0
StandTogether d input output = (e : Data) × Contains (event_parts d) e × Has ins_at input e × Has outs_at output e

together : (d input output : Data) → IsLongMake d → ((id : List ℕ) → IsMadeAs id d → ⊥) → Has ins_at input d → Has outs_at output d → StandTogether d input output
together d input output its none ins outs = by (has_parts d) refl
  where
    by : (b : Bool) → has_parts d ≡ b → StandTogether d input output
    by true is =
        let (i, some, first) = in_some (members_at ins_at d) input ins in
        let (j, others, second) = in_some (members_at outs_at d) output outs in
        let row : Contains (of_each (made_part d i) (count_at outs_at d)) (made_part d i j) = has_map (made_part d i) (numbers 0 (count_at outs_at d)) j others in
        let all : Contains (made_of_each d) (made_part d i j) = has_flat_map (λ k. of_each (made_part d k) (count_at outs_at d)) (numbers 0 (count_at ins_at d)) i (made_part d i j) some row in
        let each : made_of_each d ≡ unnumbered d = sym (parts_made d its.type ∙ rw (no_id d none) refl) in
        let (n, has) = to_parts d (made_part d i j) is (subst (λ ps. Contains ps (made_part d i j)) each all) in
        let e = with_part_id (event_id d) (n, made_part d i j) in (
          e,
          has,
          subst (λ ys. Contains ys input) (sym (its_ins d e (made_part d i j) its.type i j refl n refl)) first,
          subst (λ ys. Contains ys output) (sym (its_outs d e (made_part d i j) its.type i j refl n refl)) second,
        )
    by false is = (d, subst (λ es. Contains es d) (sym (in_one d is)) (0, omega arith, refl), ins, outs)

-- a part has nothing that the event hasn't
nothing_more : (name : List ℕ) (d e x : Data) → IsOfType (codes "TransformationEvent") d
    → (IsMadePart d e → (k : ℕ) × (members_at name e ≡ thousand k (members_at name d))) → Contains (event_parts d) e → Has name x e → Has name x d
nothing_more name d e x type of has its = by (has_parts d) refl
  where
    only : (d ≡ e) ⊎ Contains [] e → Has name x d
    only (inl same) = subst (λ v. Has name x v) (sym same) its
    only (inr none) = absurd (none_has e none)

    by : (b : Bool) → has_parts d ≡ b → Has name x d
    by true is =
        let (k, same) = of (made_by d e type is has) in
        in_thousand k (members_at name d) x (subst (λ ys. Contains ys x) same its)
    by false is = only (cases d e [] (subst (λ es. Contains es e) (in_one d is) has))

few_of_both : (d e : Data) → IsLongMake d → HasFewPairs d → Contains (event_parts d) e → (length (members_at ins_at e) ≤ 1000) × (length (members_at outs_at e) ≤ 1000)
few_of_both d e its few has =
    let low : (is_some (made_id d) || nat_le (count_at ins_at d * count_at outs_at d) 1000) ≡ true = rw (le-leb (count_at ins_at d * count_at outs_at d) 1000 few) (any (is_some (made_id d))) in
    let m = made_by d e its.type (long_make d its ∙ low) has in
    let ins : length (members_at ins_at e) ≡ length (thousand m.i (members_at ins_at d)) = ap length m.ins in
    let outs : length (members_at outs_at e) ≡ length (thousand m.j (members_at outs_at d)) = ap length m.outs in
    let a = at_most m.i (members_at ins_at d) in
    let b = at_most m.j (members_at outs_at d) in
    (omega (arith, ins, a), omega (arith, outs, b))
  where
    any : (b : Bool) → (b || true) ≡ true
    any true = refl
    any false = refl

too_many : (d : Data) → IsLongMake d → ((id : List ℕ) → IsMadeAs id d → ⊥) → (HasFewPairs d → ⊥) → event_parts d ≡ d ∷ []
too_many d its none many = in_one d (long_make d its ∙ rw (no_id d none) (by (nat_le (count_at ins_at d * count_at outs_at d) 1000) refl))
  where
    by : (b : Bool) → nat_le (count_at ins_at d * count_at outs_at d) 1000 ≡ b → b ≡ false
    by true is = absurd (many (leb-true (count_at ins_at d * count_at outs_at d) 1000 is))
    by false is = refl

pub makes_stay_whole : MakesStayWhole
makes_stay_whole = record {
  one = one_make;
  together = together;
  inputs = λ d e x its. nothing_more ins_at d e x its.type (λ m. (m.i, m.ins));
  outputs = λ d e x its. nothing_more outs_at d e x its.type (λ m. (m.j, m.outs));
  few = few_of_both;
  too_many = too_many;
}
