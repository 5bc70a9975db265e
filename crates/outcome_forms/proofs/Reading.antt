-- Values that are read back from their text, and have no float in it.
use Rattle.std.proofs.Common.{◌≡◌, ◌≤◌, ℕ, zero, suc, Bool, true, false, List, [], ◌∷◌, All, Some, refl, sym, ap, ap₂, ◌∙◌, arith}
use Rattle.std.specs.Ordering.{match_ordering, nat_cmp}
use mathlib.Core.Bool.{false≢true}
use Rattle.std.specs.Prelude.{⊤, ◌&&◌, ◌||◌, option_and_then, option_map}
use Rattle.std.specs.Cmp.Lexicographic.{slice_cmp}
use Rattle.std.specs.declared.cmp.Ordering.{Ordering}
use Rattle.std.specs.declared.cmp.Ordering.TheVariants.{Less, Equal, Greater}
use Rattle.std.proofs.lemmas.Bool.{and_parts}
use Rattle.std.proofs.lemmas.List.Elements.{All-cons, All-head, All-nil, All-tail}
use Rattle.json.specs.Json as json
use Rattle.json.specs.Tree as tree
use Rattle.serde_json.specs.Data.{Data, Num, unsigned, negative, float, null, boolean, number, string, array, object, Items, no_items, item, Members, no_members, member, put}
use Rattle.serde_json.specs.Read.{max_depth, of_items, of_json, of_members, read}
use Rattle.serde_json.specs.Written.{compact_text, has_float, items_have_float, items_outline, members_have_float, members_outline, number_text, outline}
use Rattle.serde_json.proofs.Numbers.{number_of-decimal}
use Rattle.outcome_forms.specs.Telling.{HasPlainNumber, HasPlainNumbers, ItemsHavePlainNumbers, MembersHavePlainNumbers}
use Rattle.outcome_forms.proofs.ValueLaws.{outline_read, tokens_of}

abbrev pub is_greater : Ordering → Bool
is_greater Greater = true
is_greater other = false

-- all names among these are less than this one
abbrev pub comes_behind : List ℕ → Members → Bool
comes_behind name no_members = true
comes_behind name (member other d ms) = is_greater (slice_cmp nat_cmp name other) && comes_behind name ms

abbrev pub joined : Members → Members → Members
joined no_members others = others
joined (member name d ms) others = member name d (joined ms others)

-- these come behind others, each behind the ones before it
abbrev pub in_order : Members → Members → Bool
in_order found no_members = true
in_order found (member name d ms) = comes_behind name found && in_order (joined found (member name d no_members)) ms

put_last : (name : List ℕ) (d : Data) (found : Members) → comes_behind name found ≡ true → put name d found ≡ joined found (member name d no_members)
put_last name d no_members behind = refl
put_last name d (member other e ms) behind =
    let parts = and_parts (is_greater (slice_cmp nat_cmp name other)) (comes_behind name ms) behind in
    by (slice_cmp nat_cmp name other) parts.0 (put_last name d ms parts.1)
  where
    by : (o : Ordering) → is_greater o ≡ true → put name d ms ≡ joined ms (member name d no_members)
        → match_ordering o (member name d (member other e ms)) (member other d ms) (member other e (put name d ms)) ≡ member other e (joined ms (member name d no_members))
    by Less greater same = absurd (false≢true greater)
    by Equal greater same = absurd (false≢true greater)
    by Greater greater same = ap (member other e) same

joined_none : (found : Members) → joined found no_members ≡ found
joined_none no_members = refl
joined_none (member name d ms) = ap (member name d) (joined_none ms)

joined_again : (found : Members) (name : List ℕ) (d : Data) (ms : Members) → joined (joined found (member name d no_members)) ms ≡ joined found (member name d ms)
joined_again no_members name d ms = refl
joined_again (member other e found) name d ms = ap (member other e) (joined_again found name d ms)

-- ---- values that are read back

-- so many arrays and objects deep at most, with each object's members in the order of their names, and without floats
abbrev mutual
  pub IsTree : ℕ → Data → Type 0
  IsTree n null = ⊤
  IsTree n (boolean b) = ⊤
  IsTree n (number (unsigned k)) = ⊤
  IsTree n (number (negative z)) = ⊤
  IsTree n (number (float x)) = ⊥
  IsTree n (string s) = ⊤
  IsTree zero (array ds) = ⊥
  IsTree (suc n) (array ds) = ItemsAreTrees n ds
  IsTree zero (object ms) = ⊥
  IsTree (suc n) (object ms) = (in_order no_members ms ≡ true) × MembersAreTrees n ms

  pub ItemsAreTrees : ℕ → Items → Type 0
  ItemsAreTrees n no_items = ⊤
  ItemsAreTrees n (item d ds) = IsTree n d × ItemsAreTrees n ds

  pub MembersAreTrees : ℕ → Members → Type 0
  MembersAreTrees n no_members = ⊤
  MembersAreTrees n (member name d ms) = IsTree n d × MembersAreTrees n ms

number_read : (n : Num) → HasPlainNumber n → of_json (json.number (number_text n)) ≡ Some (number n)
number_read (unsigned n) small = ap (option_map number) (number_of-decimal n small)
number_read (negative z) never = absurd never
number_read (float x) never = absurd never

mutual
  tree_read : (n : ℕ) (d : Data) → IsTree n d → HasPlainNumbers d → of_json (outline d) ≡ Some d
  tree_read n null is plain = refl
  tree_read n (boolean b) is plain = refl
  tree_read n (number m) is plain = number_read m plain
  tree_read n (string s) is plain = refl
  tree_read zero (array ds) is plain = absurd is
  tree_read (suc n) (array ds) is plain = ap (option_map array) (items_read n ds is plain)
  tree_read zero (object ms) is plain = absurd is
  tree_read (suc n) (object ms) is plain = ap (option_map object) (members_read n no_members ms is.0 is.1 plain)

  items_read : (n : ℕ) (ds : Items) → ItemsAreTrees n ds → ItemsHavePlainNumbers ds → of_items (items_outline ds) ≡ Some ds
  items_read n no_items are plain = refl
  items_read n (item d ds) are plain =
      ap (option_and_then (λ e. option_map (item e) (of_items (items_outline ds)))) (tree_read n d are.0 plain.0)
      ∙ ap (option_map (item d)) (items_read n ds are.1 plain.1)

  members_read : (n : ℕ) (found ms : Members) → in_order found ms ≡ true → MembersAreTrees n ms → MembersHavePlainNumbers ms
      → of_members (members_outline ms) found ≡ Some (joined found ms)
  members_read n found no_members order are plain = ap Some (sym (joined_none found))
  members_read n found (member name d ms) order are plain =
      let parts = and_parts (comes_behind name found) (in_order (joined found (member name d no_members)) ms) order in
      ap (option_and_then (λ e. of_members (members_outline ms) (put name e found))) (tree_read n d are.0 plain.0)
      ∙ ap (of_members (members_outline ms)) (put_last name d found parts.0)
      ∙ members_read n (joined found (member name d no_members)) ms parts.1 are.1 plain.1
      ∙ ap Some (joined_again found name d ms)

mutual
  pub tree_free : (n : ℕ) (d : Data) → IsTree n d → has_float d ≡ false
  tree_free n null is = refl
  tree_free n (boolean b) is = refl
  tree_free n (number (unsigned k)) is = refl
  tree_free n (number (negative z)) is = refl
  tree_free n (number (float x)) is = absurd is
  tree_free n (string s) is = refl
  tree_free zero (array ds) is = absurd is
  tree_free (suc n) (array ds) is = items_free n ds is
  tree_free zero (object ms) is = absurd is
  tree_free (suc n) (object ms) is = members_free n ms is.1

  items_free : (n : ℕ) (ds : Items) → ItemsAreTrees n ds → items_have_float ds ≡ false
  items_free n no_items are = refl
  items_free n (item d ds) are = ap₂ (λ a b. a || b) (tree_free n d are.0) (items_free n ds are.1)

  members_free : (n : ℕ) (ms : Members) → MembersAreTrees n ms → members_have_float ms ≡ false
  members_free n no_members are = refl
  members_free n (member name d ms) are = ap₂ (λ a b. a || b) (tree_free n d are.0) (members_free n ms are.1)

mutual
  tree_shallow : (n : ℕ) (d : Data) → IsTree n d → tree.depth (outline d) ≤ n
  tree_shallow n null is = omega arith
  tree_shallow n (boolean b) is = omega arith
  tree_shallow n (number m) is = omega arith
  tree_shallow n (string s) is = omega arith
  tree_shallow zero (array ds) is = absurd is
  tree_shallow (suc n) (array ds) is = let below = items_shallow n ds is in omega (arith, below)
  tree_shallow zero (object ms) is = absurd is
  tree_shallow (suc n) (object ms) is = let below = members_shallow n ms is.1 in omega (arith, below)

  items_shallow : (n : ℕ) (ds : Items) → ItemsAreTrees n ds → tree.items_depth (items_outline ds) ≤ n
  items_shallow n no_items are = omega arith
  items_shallow n (item d ds) are = let first = tree_shallow n d are.0 in let rest = items_shallow n ds are.1 in omega (arith, first, rest)

  members_shallow : (n : ℕ) (ms : Members) → MembersAreTrees n ms → tree.members_depth (members_outline ms) ≤ n
  members_shallow n no_members are = omega arith
  members_shallow n (member name d ms) are = let first = tree_shallow n d are.0 in let rest = members_shallow n ms are.1 in omega (arith, first, rest)

read_back : (d : Data) → IsTree 8 d → HasPlainNumbers d → read (compact_text d) ≡ Some d
read_back d is plain =
    let shallow = tree_shallow 8 d is in
    ap (λ ts. option_and_then of_json (option_and_then (λ p. json.if_last p.0 p.1) (json.value max_depth ts))) (tokens_of d plain)
    ∙ ap (λ v. option_and_then of_json (option_and_then (λ p. json.if_last p.0 p.1) v)) (outline_read (outline d) max_depth (omega (arith, shallow)))
    ∙ tree_read 8 d is plain

pub all_read : (ds : List Data) → All (IsTree 8) ds → All HasPlainNumbers ds → All (λ d. read (compact_text d) ≡ Some d) ds
all_read [] are plain = All-nil (λ d. read (compact_text d) ≡ Some d)
all_read (d ∷ ds) are plain =
    All-cons (λ e. read (compact_text e) ≡ Some e) d ds (read_back d (All-head (IsTree 8) d ds are) (All-head HasPlainNumbers d ds plain))
    (all_read ds (All-tail (IsTree 8) d ds are) (All-tail HasPlainNumbers d ds plain))
