-- The identifiers of parts.
use Rattle.std.proofs.Common.{◌≡◌, ◌⊎◌, ◌≤◌, ◌<◌, ℕ, ◌^◌, Bool, true, false, Contains, List, [], ◌∷◌, ◌++◌, Option, Some, None, bytes_eq, codes, length, inl, inr, refl, sym, ap, subst, ◌∙◌, arith, if◌then◌else◌}
use Rattle.std.specs.Prelude.{nat_le, option_and_then}
use Rattle.std.specs.Fmt.{decimal}
use Rattle.std.proofs.lemmas.Bool.{le-leb, leb-true}
use Rattle.std.proofs.lemmas.Fmt.{decimal_injective}
use Rattle.serde_json.specs.Data.{Data, string}
use Rattle.serde_json.specs.Find.{as_str, get}
use Rattle.event_json.specs.Checks.{type_text}
use Rattle.event_json.specs.Members.{member_named, present}
use Rattle.event_json.specs.Untraced.{is_text}
use Rattle.document_convert.specs.Parted.{event_id, event_parts, has_parts, is_long_as, listed_parts, made_parts, part_id, parts_as, with_event_id, with_part_id}
use Rattle.document_convert.specs.PartLaws.{IsNth, PartsAreNumbered, nth_id}
use Rattle.document_convert.proofs.Beside.{same_member}
use Rattle.document_convert.proofs.EventParts.{in_one, in_several, of_type, type_there, unnumbered}
use Rattle.document_convert.proofs.Has.{cases, here, none_has}
use Rattle.document_convert.proofs.MovedLaws.{absent_without, set_there}
use Rattle.document_convert.proofs.PartLaws.{from_parts, listed_kept, made_kept}
use Rattle.document_convert.proofs.PartLemmas.{apart, enumerate_at}
use Rattle.std.proofs.lemmas.List.Elements.{Contains-append_right}

-- an event with parts has a type
has_type : (d : Data) → has_parts d ≡ true → (text : List ℕ) × (type_text d ≡ Some text)
unfolding has_parts
has_type d is = by (type_text d) refl is
  where
    by : (o : Option (List ℕ)) → type_text d ≡ o → is_text (is_long_as d) o ≡ true → (text : List ℕ) × (type_text d ≡ Some text)
    by None e i = cc
    by (Some text) e i = (text, e)

-- a part before it is numbered has what is no list and no identifier of a transformation
abbrev IsApart : List ℕ → Type 0
IsApart q = (q ≡ codes "epcList" → ⊥) × (q ≡ codes "childEPCs" → ⊥) × (q ≡ codes "inputEPCList" → ⊥) × (q ≡ codes "outputEPCList" → ⊥) × (q ≡ codes "transformationID" → ⊥)

kept_by : (q : List ℕ) (d p : Data) (text : List ℕ) → IsApart q → Contains (parts_as d text) p → get q p ≡ get q d
kept_by q d p text (a, b, c, e, t) has = of_object (bytes_eq text (codes "ObjectEvent")) has
  where
    of_aggregation : (x : Bool) → Contains (if x then listed_parts (codes "childEPCs") d else made_parts d) p → get q p ≡ get q d
    of_aggregation true h = listed_kept (codes "childEPCs") q d p b h
    of_aggregation false h = made_kept q d p c e t h

    of_object : (x : Bool) → Contains (if x then listed_parts (codes "epcList") d else (if bytes_eq text (codes "AggregationEvent") then listed_parts (codes "childEPCs") d else made_parts d)) p
        → get q p ≡ get q d
    of_object true h = listed_kept (codes "epcList") q d p a h
    of_object false h = of_aggregation (bytes_eq text (codes "AggregationEvent")) h

kept_whole : (q : List ℕ) (d p : Data) → IsApart q → has_parts d ≡ true → Contains (unnumbered d) p → get q p ≡ get q d
kept_whole q d p apart long has =
    let (text, type) = has_type d long in
    kept_by q d p text apart (subst (λ ps. Contains ps p) (of_type d text type) has)

part_type : (d p : Data) → has_parts d ≡ true → Contains (unnumbered d) p → (v : Data) × (member_named (codes "type") p ≡ Some v)
part_type d p long has =
    let (text, type) = has_type d long in
    let (v, there) = type_there d text type in
    (v, same_member (codes "type") d p (kept_whole (codes "type") d p (apart (codes "type") (codes "epcList") refl, apart (codes "type") (codes "childEPCs") refl, apart (codes "type") (codes "inputEPCList") refl, apart (codes "type") (codes "outputEPCList") refl, apart (codes "type") (codes "transformationID") refl) long has) ∙ there)

part_id_kept : (d p : Data) → has_parts d ≡ true → Contains (unnumbered d) p → member_named (codes "eventID") p ≡ member_named (codes "eventID") d
part_id_kept d p long has = same_member (codes "eventID") d p (kept_whole (codes "eventID") d p (apart (codes "eventID") (codes "epcList") refl, apart (codes "eventID") (codes "childEPCs") refl, apart (codes "eventID") (codes "inputEPCList") refl, apart (codes "eventID") (codes "outputEPCList") refl, apart (codes "eventID") (codes "transformationID") refl) long has)

-- ---- the nth

-- an event of several parts has some
long_of : (d e : Data) (n : ℕ) → IsNth n d e → has_parts d ≡ true
long_of d e n nth = by (has_parts d) refl
  where
    by : (b : Bool) → has_parts d ≡ b → b ≡ true
    by true is = refl
    by false is = let one : length (event_parts d) ≡ 1 = ap length (in_one d is) in absurd (omega (arith, one, nth.several))

pub record IsNumbered (d e : Data) (n : ℕ) : Type 0 where
  pub p : Data
  pub of : Contains (unnumbered d) p
  pub is : with_part_id (event_id d) (n, p) ≡ e

nth_of : (d e : Data) (n : ℕ) → IsNth n d e → IsNumbered d e n
nth_of d e n nth =
    let r = enumerate_at (with_part_id (event_id d)) 1 (unnumbered d) nth.before nth.behind e (sym (in_several d (long_of d e n nth)) ∙ nth.stands) in
    record {
      p = r.x;
      of = subst (λ ps. Contains ps r.x) (sym r.stands) (Contains-append_right r.front (r.x ∷ r.back) r.x (here r.x r.back));
      is = ap (λ k. with_part_id (event_id d) (k, r.x)) nth.number ∙ r.is;
    }

id_there : (d : Data) (id : List ℕ) → member_named (codes "eventID") d ≡ Some (string id) → event_id d ≡ Some id
id_there d id is = ap (option_and_then as_str) is

numbered_by : (d e : Data) (id : List ℕ) (n : ℕ) → member_named (codes "eventID") d ≡ Some (string id) → IsNth n d e → length (nth_id id n) ≤ 512
    → member_named (codes "eventID") e ≡ Some (string (nth_id id n))
numbered_by d e id n is nth few =
    let x = nth_of d e n nth in
    let (v, type) = part_type d x.p (long_of d e n nth) x.of in
    let short_is : part_id id n ≡ Some (nth_id id n) = rw (le-leb (length (nth_id id n)) 512 few) refl in
    ap (member_named (codes "eventID")) (sym x.is ∙ ap (λ (o : Option (List ℕ)). with_part_id o (n, x.p)) (id_there d id is) ∙ ap (λ (o : Option (List ℕ)). with_event_id o x.p) short_is)
    ∙ ap (option_and_then present) (set_there (codes "eventID") (codes "type") (string (nth_id id n)) x.p v type)

too_long : (d e : Data) (id : List ℕ) (n : ℕ) → member_named (codes "eventID") d ≡ Some (string id) → IsNth n d e → 512 < length (nth_id id n) → member_named (codes "eventID") e ≡ None
too_long d e id n is nth more =
    let x = nth_of d e n nth in
    ap (member_named (codes "eventID")) (sym x.is ∙ ap (λ (o : Option (List ℕ)). with_part_id o (n, x.p)) (id_there d id is) ∙ ap (λ (o : Option (List ℕ)). with_event_id o x.p) long)
    ∙ ap (option_and_then present) (absent_without (codes "eventID") x.p)
  where
    by : (b : Bool) → nat_le (length (nth_id id n)) 512 ≡ b → (if b then Some (nth_id id n) else None) ≡ None
    by true low = absurd (omega (arith, more, leb-true (length (nth_id id n)) 512 low))
    by false low = refl

    long : part_id id n ≡ None
    long = by (nat_le (length (nth_id id n)) 512) refl

without_id : (d e : Data) → member_named (codes "eventID") d ≡ None → Contains (event_parts d) e → member_named (codes "eventID") e ≡ None
without_id d e none has = by (has_parts d) refl
  where
    only : (d ≡ e) ⊎ Contains [] e → member_named (codes "eventID") e ≡ None
    only (inl same) = ap (member_named (codes "eventID")) (sym same) ∙ none
    only (inr never) = absurd (none_has e never)

    by : (b : Bool) → has_parts d ≡ b → member_named (codes "eventID") e ≡ None
    by true is =
        let q = from_parts d e is has in
        let no_text : event_id d ≡ None = ap (option_and_then as_str) none in
        ap (member_named (codes "eventID")) (sym q.is ∙ ap (λ (o : Option (List ℕ)). with_part_id o (q.n, q.p)) no_text)
        ∙ part_id_kept d q.p is q.of
        ∙ none
    by false is = only (cases d e [] (subst (λ es. Contains es e) (in_one d is) has))

-- ---- no two are one

behind_same : (front xs ys : List ℕ) → front ++ xs ≡ front ++ ys → xs ≡ ys
behind_same [] xs ys is = is
behind_same (c ∷ front) xs ys is = let rest : front ++ xs ≡ front ++ ys = cc in behind_same front xs ys rest

ids_apart : (id : List ℕ) (m n : ℕ) → m < 2 ^ 64 → n < 2 ^ 64 → nth_id id m ≡ nth_id id n → m ≡ n
ids_apart id m n p q is =
    let signs : codes "#" ++ decimal m ≡ codes "#" ++ decimal n = behind_same id (codes "#" ++ decimal m) (codes "#" ++ decimal n) is in
    decimal_injective m n p q (behind_same (codes "#") (decimal m) (decimal n) signs)

pub parts_are_numbered : PartsAreNumbered
parts_are_numbered = record { numbered = numbered_by; too_long = too_long; without = without_id; apart = ids_apart }
