-- An object without a member.
use Rattle.std.proofs.Common.{◌≡◌, ℕ, List, [], ◌∷◌, Option, Some, None, String, BTreeMap, Global, Ordering, Less, Equal, Greater, Bool, true, false, bytes_eq, string_bytes, string_cmp, nat_cmp, is_eq, cond, refl, sym, ap, ◌∙◌}
use Rattle.std.proofs.lemmas.Map.Text.{is_eq-slice_cmp}
use Rattle.std.proofs.lemmas.Slice.Eq.{bytes_eq-Decides}
use Rattle.std.specs.BTreeMap.{is_at}
use Rattle.std.specs.Cmp.Lexicographic.{slice_cmp}
use Rattle.std.specs.List.{AllByRecursion}
use Rattle.std.specs.List.Sorted.{IsStrictlySortedBy}
use Rattle.std.specs.Map.{keys_of, remove_entry}
use Rattle.std.specs.Ordering.{match_ordering}
use mathlib.Core.Bool.{true≢false}
use Rattle.serde_json.specs.Data.{Data, object, Members, no_members, member}
use Rattle.serde_json.specs.Find.{get_member}
use Rattle.serde_json.specs.View.{members_view, view}
use Rattle.serde_json.specs.declared.value.Value.{Value, Object}
use Rattle.serde_json.proofs.Views.{view-Object}
use Rattle.document_convert.specs.Quantities.{without, without_member}

abbrev Entry : Type 0
Entry = String Global × Value

-- a name that is below others is none of them
none_equal : (name : List ℕ) (first : String Global) (es : List Entry) → name ≡ string_bytes first → AllByRecursion (λ k. string_cmp first k ≡ Less) (keys_of es)
    → without name (members_view es) ≡ members_view es
none_equal name first [] same above = refl
none_equal name first (e ∷ es) same above =
    let differs : bytes_eq name (string_bytes e.0) ≡ false =
    ap (λ n. bytes_eq n (string_bytes e.0)) same ∙ sym (is_eq-slice_cmp (string_bytes first) (string_bytes e.0)) ∙ ap is_eq above.0 in
    rw differs (ap (member (string_bytes e.0) (view e.1)) (none_equal name first es same above.1))

pub removed : (name : List ℕ) (es : List Entry) → IsStrictlySortedBy string_cmp (keys_of es)
    → members_view (remove_entry (is_at (λ k. slice_cmp nat_cmp name (string_bytes k))) es) ≡ without name (members_view es)
unfolding IsStrictlySortedBy
removed name [] sorted = refl
removed name (e ∷ es) sorted = rw (is_eq-slice_cmp name (string_bytes e.0)) (by (bytes_eq name (string_bytes e.0)) refl (removed name es sorted.1))
  where
    by : (b : Bool) → bytes_eq name (string_bytes e.0) ≡ b → members_view (remove_entry (is_at (λ k. slice_cmp nat_cmp name (string_bytes k))) es) ≡ without name (members_view es)
        → members_view (cond b es (e ∷ remove_entry (is_at (λ k. slice_cmp nat_cmp name (string_bytes k))) es))
        ≡ cond b (without name (members_view es)) (member (string_bytes e.0) (view e.1) (without name (members_view es)))
    by true is rest = sym (none_equal name e.0 es ((bytes_eq-Decides name (string_bytes e.0)).0 is) sorted.0)
    by false is rest = ap (member (string_bytes e.0) (view e.1)) rest

pub removed_view : (name : List ℕ) (old new : BTreeMap (String Global) Value) → IsStrictlySortedBy string_cmp (keys_of old.entries)
    → new.entries ≡ remove_entry (is_at (λ k. slice_cmp nat_cmp name (string_bytes k))) old.entries → view (Object new) ≡ without_member name (view (Object old))
removed_view name old new sorted is =
    let gone : members_view new.entries ≡ without name (members_view old.entries) = ap members_view is ∙ removed name old.entries sorted in
    view-Object new ∙ ap object gone ∙ sym (ap (without_member name) (view-Object old))

-- ---- what is found then

passed : (o : Ordering) (a b : Option Data) → is_eq o ≡ false → match_ordering o a b a ≡ a
passed Less a b e = refl
passed Equal a b e = absurd (true≢false e)
passed Greater a b e = refl

-- a member of another name is passed over
pub skips : (q l : List ℕ) (d : Data) (ms : Members) → bytes_eq q l ≡ false → get_member q (member l d ms) ≡ get_member q ms
skips q l d ms is = passed (slice_cmp nat_cmp q l) (get_member q ms) (Some d) (is_eq-slice_cmp q l ∙ is)

pub differ : (a b : List ℕ) → (a ≡ b → ⊥) → bytes_eq a b ≡ false
differ a b other = by (bytes_eq a b) refl
  where
    by : (t : Bool) → bytes_eq a b ≡ t → t ≡ false
    by true is = absurd (other ((bytes_eq-Decides a b).0 is))
    by false is = refl

pub none_there : (name : List ℕ) (ms : Members) → get_member name (without name ms) ≡ None
none_there name no_members = refl
none_there name (member l d ms) = by (bytes_eq name l) refl (none_there name ms)
  where
    by : (b : Bool) → bytes_eq name l ≡ b → get_member name (without name ms) ≡ None → get_member name (cond b (without name ms) (member l d (without name ms))) ≡ None
    by true is rest = rest
    by false is rest = skips name l d (without name ms) is ∙ rest

pub others_there : (q name : List ℕ) (ms : Members) → (q ≡ name → ⊥) → get_member q (without name ms) ≡ get_member q ms
others_there q name no_members other = refl
others_there q name (member l d ms) other = by (bytes_eq name l) refl (others_there q name ms other)
  where
    by : (b : Bool) → bytes_eq name l ≡ b → get_member q (without name ms) ≡ get_member q ms
        → get_member q (cond b (without name ms) (member l d (without name ms))) ≡ get_member q (member l d ms)
    by true is rest =
        let same : name ≡ l = (bytes_eq-Decides name l).0 is in
        rest ∙ sym (skips q l d ms (differ q l (λ e. other (e ∙ sym same))))
    by false is rest = ap (λ (o : Option Data). match_ordering (slice_cmp nat_cmp q l) o (Some d) o) rest
