-- Finite maps made of ascending entries, and tree maps as finite maps.
use Rattle.std.proofs.Common.{◌≡◌, inl, inr, Bool, true, false, cond, not, List, [], length, Option, Some, None, Result, Ok, Err, OnOk, OnErr, refl, sym, ap, subst, ◌∙◌}
use Rattle.std.specs.Prelude.{is_some, option_map}
use Rattle.std.specs.Borrow.{Bor}
use Rattle.std.specs.Option.{option_copied}
use Rattle.std.specs.Cmp.{IsTotalOrder}
use Rattle.std.specs.Ordering.{is_eq, eq_by_cmp}
use Rattle.std.specs.declared.cmp.Ordering.{Ordering}
use Rattle.std.specs.FinMap.{FinMap, IsAntisymmetric, find, put, get, insert, remove, empty, from_sorted, entries-from_sorted, get-from_sorted, same_entries_map, entries, empty_of_len, len-entries, entries-insert, get-remove, same_map}
use Rattle.std.specs.FinMap.Entries.{is_sorted-put, is_sorted-where_key, find-where_key}
use Rattle.std.proofs.lemmas.Cmp.{alike_right, eq_by_cmp_equiv}
use Rattle.frame_core.proofs.Ascending.{IsAscending, without, ascending_keys, looked_up, inserted, removed, written}
use Rattle.frame_core.specs.Tables.{as_map, set_back}
use Rattle.frame_core.proofs.Lookups.{one_key, get_here, get_apart, get_gone, get_left}
use Rattle.std.specs.BTreeMap.{BTreeMap, insert_entry, is_at, IsOrdered}
use Rattle.std.specs.Map.{lookup, remove_entry, set_value}

-- no entries make no map
pub none_sorted : {K X : Type 0} {R : K → K → Ordering} → from_sorted {X = X} {R = R} [] ≡ empty
none_sorted {K} {X} {R} = empty_of_len _ (len-entries (from_sorted {X = X} {R = R} []) ∙ ap length (entries-from_sorted R [] tt))

turned : {A : Type 0} (b : Bool) (x y : A) → cond (not b) x y ≡ cond b y x
turned true x y = refl
turned false x y = refl

module _ {K X : Type 0} {R : K → K → Ordering} (o : IsTotalOrder R) (exact : IsAntisymmetric R) where
  -- to remove what isn't there changes nothing
  pub remove_none : (m : FinMap R X) (k : K) → get m k ≡ None → remove m k ≡ m
  remove_none m k none = same_map o exact _ _ (λ q. elim (one_key o exact q k) [
    | inl same ↦ subst (λ z. get (remove m k) z ≡ get m z) (sym same) (get_gone o exact m k ∙ sym none)
    | inr ne ↦ get_left o exact m k q ne
  ])

  pub ascending_without : (es : List (K × X)) (k : K) → IsAscending R es → IsAscending R (without R k es)
  ascending_without es k up = is_sorted-where_key R (λ x. not (eq_by_cmp R k x)) es up

  -- entries of all keys but one are the map without it
  pub without_sorted : (es : List (K × X)) (k : K) → IsAscending R es → from_sorted {R = R} (without R k es) ≡ remove (from_sorted es) k
  without_sorted es k up = same_map o exact _ _ (λ q.
      get-from_sorted R (without R k es) q (ascending_without es k up)
      ∙ find-where_key R (λ x. not (eq_by_cmp R k x)) q (λ x t. ap (λ r. not (is_eq r)) (sym (alike_right o q x k t))) es
      ∙ turned (eq_by_cmp R k q) _ _
      ∙ ap (λ b. cond b None (find R q es)) ((eq_by_cmp_equiv o).symm k q)
      ∙ ap (cond (eq_by_cmp R q k) None) (sym (get-from_sorted R es q up))
      ∙ sym (get-remove o (from_sorted es) k q))

-- an answer that isn't there is None
pub none_found : {A : Type 0} (x : Option A) → is_some x ≡ false → x ≡ None
none_found None e = refl
none_found (Some a) e = cc

-- the entries of a tree map are those of the finite map
pub map_entries : {K X : Type 0} (R : K → K → Ordering) (m : BTreeMap K X) → IsOrdered R m → m.entries ≡ entries (as_map R m)
map_entries R m up = sym (entries-from_sorted R m.entries (ascending_keys R m.entries up))

-- A tree map as a finite map: what it finds, and what its changes leave.
module _ {K X : Type 0} {R : K → K → Ordering} (o : IsTotalOrder R) where
  pub map_found : (m : BTreeMap K X) (k : K) → IsOrdered R m → lookup (is_at (R k)) m.entries ≡ get (as_map R m) k
  map_found m k up = looked_up R k m.entries ∙ sym (get-from_sorted R m.entries k (ascending_keys R m.entries up))

  pub map_inserted : (m n : BTreeMap K X) (k : K) (v : X) → IsOrdered R m → n.entries ≡ insert_entry R m.entries k v → as_map R n ≡ insert (as_map R m) k v
  map_inserted m n k v up is =
      let sorted = ascending_keys R m.entries up in
      ap (from_sorted {R = R}) (is ∙ inserted R k v m.entries)
      ∙ same_entries_map _ _ (entries-from_sorted R _ (is_sorted-put R o k v m.entries sorted) ∙ sym (entries-insert o (as_map R m) k v ∙ ap (put R k v) (entries-from_sorted R m.entries sorted)))

  pub map_removed : IsAntisymmetric R → (m n : BTreeMap K X) (k : K) → IsOrdered R m → n.entries ≡ remove_entry (is_at (R k)) m.entries → as_map R n ≡ remove (as_map R m) k
  map_removed exact m n k up is =
      let sorted = ascending_keys R m.entries up in
      ap (from_sorted {R = R}) (is ∙ removed o k m.entries sorted) ∙ without_sorted o exact m.entries k sorted

  -- what was put is taken away again
  pub insert_undone : IsAntisymmetric R → (m : FinMap R X) (k : K) (v : X) → set_back (insert m k v) k (get m k) ≡ m
  insert_undone exact m k v = back (get m k) refl
    where
      back : (before : Option X) → get m k ≡ before → set_back (insert m k v) k before ≡ m
      back None was = same_map o exact _ _ (λ q. elim (one_key o exact q k) [
        | inl same ↦ subst (λ z. get (remove (insert m k v) k) z ≡ get m z) (sym same) (get_gone o exact (insert m k v) k ∙ sym was)
        | inr ne ↦ get_left o exact (insert m k v) k q ne ∙ get_apart o exact m k v q ne
      ])
      back (Some w) was = same_map o exact _ _ (λ q. elim (one_key o exact q k) [
        | inl same ↦ subst (λ z. get (insert (insert m k v) k w) z ≡ get m z) (sym same) (get_here o exact (insert m k v) k w ∙ sym was)
        | inr ne ↦ get_apart o exact (insert m k v) k w q ne ∙ get_apart o exact m k v q ne
      ])

-- what a borrowed value is
pub lent_value : {A : Type 0} (found : Option (Bor A)) → option_map {T = Bor A} {U = A} (λ value. value.now) found ≡ option_copied found
lent_value None = refl
lent_value (Some a) = refl

-- a call whose fault can't come has succeeded
pub succeeds : {A E : Type 0} (result : Result A E) {P Q : Type 0} → OnOk result P → OnErr result Q → (Q → ⊥) → P
succeeds (Ok a) p q no_fault = p
succeeds (Err e) p q no_fault = absurd (no_fault q)

-- a tree map without entries
pub no_entries : {K X : Type 0} {R : K → K → Ordering} (m : BTreeMap K X) → m.entries ≡ [] → as_map R m ≡ empty
no_entries {R = R} m none = ap (from_sorted {R = R}) none ∙ none_sorted

-- a new key that is taken away again
pub removed_again : {K X : Type 0} {R : K → K → Ordering} (o : IsTotalOrder R) (exact : IsAntisymmetric R) (m : FinMap R X) (k : K) (v : X) → get m k ≡ None → remove (insert m k v) k ≡ m
removed_again o exact m k v none = ap (set_back (insert m k v) k) (sym none) ∙ insert_undone o exact m k v

-- a value that is written through a borrow at its key
pub map_written : {K X : Type 0} {R : K → K → Ordering} (o : IsTotalOrder R) (m n : BTreeMap K X) (k : K) (v x : X) → IsOrdered R m → get (as_map R m) k ≡ Some x → n.entries ≡ set_value (is_at (R k)) m.entries v → as_map R n ≡ insert (as_map R m) k v
map_written {R = R} o m n k v x up has is =
    let sorted = ascending_keys R m.entries up in
    map_inserted o m n k v up (is ∙ written o k v x m.entries (sym (get-from_sorted R m.entries k sorted) ∙ has) sorted ∙ sym (inserted R k v m.entries))
