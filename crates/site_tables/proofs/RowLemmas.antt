-- Rows that are put into a tree or taken out, and what stays visible.
use Rattle.std.proofs.Common.{◌≡◌, ℤ, List, [], ◌∷◌, ◌++◌, map, true, false, not, ◌||◌, if◌then◌else◌, refl, sym, ◌∙◌}
use Rattle.std.specs.List.{AllByRecursion, list_any}
use Rattle.std.specs.List.Sorted.{IsPermutation}
use Rattle.std.specs.declared.cmp.Ordering.TheVariants.{Less, Equal, Greater}
use Rattle.std.specs.Ordering.{is_eq, match_ordering, ordering_reverse}
use Rattle.std.specs.declared.cmp.Ordering.{Ordering}
use Rattle.std.proofs.lemmas.List.Sorted.{IsPermutation-refl, IsPermutation-sym, IsPermutation-trans, IsPermutation-cons, IsPermutation-middle, IsPermutation-append_comm, IsPermutation-map, list_any-IsPermutation}
use Rattle.std.proofs.lemmas.Bool.{or_parts, and_parts}
use Rattle.sqlite_trees.proofs.TreeLemmas.{IsTable-put_row}
use Rattle.sqlite_trees.proofs.ListLemmas.{all_weaker}
use Rattle.sqlite.specs.declared.types.Value.TheVariants.{Int}
use Rattle.sqlite.specs.Order.{Row}
use Rattle.sqlite.specs.Table.{Table}
use Rattle.sqlite_value.specs.Order.{value_cmp}
use Rattle.sqlite_value.proofs.OrderLemmas.{value_cmp_total}
use Rattle.sqlite_trees.specs.Tree.{rowid, has_rowid, put_row, without_rowid}
use Rattle.sqlite_trees.specs.View.{is_int}
use Rattle.sqlite_rules.specs.Edit.{id_in, without_all, is_taken, have_rowids}
use Rattle.sqlite_rules.specs.Calls.{ids_of}
use Rattle.sqlite_rules.proofs.TableLemmas.{int_is}
use Rattle.site_tables.specs.TableRows.{visible, HasRows}

pub put_fresh : (new : Row) (rows : List Row) → is_taken rows new ≡ false → IsPermutation (new ∷ rows) (put_row new rows)
put_fresh new [] fresh = IsPermutation-refl (new ∷ [])
put_fresh new (r ∷ rows) fresh =
    elim (value_cmp (rowid r) (rowid new)) as (λ o. (is_eq o ≡ false) → (list_any (λ r. is_eq (value_cmp (rowid r) (rowid new))) rows ≡ false) → IsPermutation (new ∷ r ∷ rows) (match_ordering o (r ∷ put_row new rows) (new ∷ rows) (new ∷ r ∷ rows))) [
      | Less ↦ λ _ later. IsPermutation-trans (new ∷ r ∷ rows) (r ∷ new ∷ rows) (r ∷ put_row new rows) (IsPermutation-sym (r ∷ new ∷ rows) (new ∷ r ∷ rows) (IsPermutation-middle (r ∷ []) new rows)) (IsPermutation-cons r (new ∷ rows) (put_row new rows) (put_fresh new rows later))
      | Equal ↦ λ e _. absurd cc
      | Greater ↦ λ _ _. IsPermutation-refl (new ∷ r ∷ rows)
    ] (parts r new rows fresh).0 (parts r new rows fresh).1
  where
    parts : (r new : Row) (rows : List Row) → is_taken (r ∷ rows) new ≡ false → (is_eq (value_cmp (rowid r) (rowid new)) ≡ false) × (is_taken rows new ≡ false)
    parts r new rows h = or_parts (is_eq (value_cmp (rowid r) (rowid new))) (is_taken rows new) h

keyed_put : (new : Row) (rows : List Row) → is_int (rowid new) ≡ true → have_rowids rows ≡ true → have_rowids (put_row new rows) ≡ true
keyed_put new [] int all = rw int refl
keyed_put new (r ∷ rows) int all =
    let both = and_parts (is_int (rowid r)) (have_rowids rows) all in
    elim (value_cmp (rowid r) (rowid new)) as (λ o. have_rowids (match_ordering o (r ∷ put_row new rows) (new ∷ rows) (new ∷ r ∷ rows)) ≡ true)
    [ Less ↦ rw (both.0, keyed_put new rows int both.1) refl | Equal ↦ rw (int, both.1) refl | Greater ↦ rw (int, both.0, both.1) refl ]

-- a row that was not there is one row more
pub has_one_more : (table : Table) (rows tree : List Row) (new shown : Row) → is_int (rowid new) ≡ true → is_taken tree new ≡ false → visible table new ≡ shown → HasRows table rows tree → HasRows table (rows ++ shown ∷ []) (put_row new tree)
has_one_more table rows tree new shown int fresh shows has =
    let seen = map (visible table) in
    let put = IsPermutation-sym (seen (new ∷ tree)) (seen (put_row new tree)) (IsPermutation-map (visible table) (new ∷ tree) (put_row new tree) (put_fresh new tree fresh)) in
    let more : IsPermutation (seen (new ∷ tree)) (shown ∷ rows) = rw shows (IsPermutation-cons shown (seen tree) rows has.same) in
    let last = IsPermutation-trans (seen (put_row new tree)) (seen (new ∷ tree)) (shown ∷ rows) put more in
    record {
      keyed = keyed_put new tree int has.keyed;
      rising = IsTable-put_row new tree has.rising;
      same = IsPermutation-trans (seen (put_row new tree)) (shown ∷ rows) (rows ++ shown ∷ []) last (IsPermutation-append_comm (shown ∷ []) rows);
    }

others_left : (id : ℤ) (ids : List ℤ) (rows : List Row) → AllByRecursion (λ r. list_any (λ i. has_rowid i r) (id ∷ ids) ≡ true) rows → AllByRecursion (λ r. list_any (λ i. has_rowid i r) ids ≡ true) (without_rowid id rows)
others_left id ids [] all = tt
others_left id ids (r ∷ rows) all =
    elim (has_rowid id r) as (λ b. ((b || list_any (λ i. has_rowid i r) ids) ≡ true) → AllByRecursion (λ r. list_any (λ i. has_rowid i r) ids ≡ true) (if not b then r ∷ without_rowid id rows else without_rowid id rows))
    [ true ↦ λ _. others_left id ids rows all.1 | false ↦ λ here. (here, others_left id ids rows all.1) ] all.0

none_left : (ids : List ℤ) (rows : List Row) → AllByRecursion (λ r. list_any (λ id. has_rowid id r) ids ≡ true) rows → without_all rows ids ≡ []
none_left [] [] all = refl
none_left [] (r ∷ rows) all = absurd (let e = all.0 in cc)
none_left (id ∷ ids) rows all = none_left ids (without_rowid id rows) (others_left id ids rows all)

even : (o : Ordering) → o ≡ ordering_reverse o → is_eq o ≡ true
even Equal h = refl
even Less h = absurd cc
even Greater h = absurd cc

-- each row has its own rowid
pub own : (r : Row) → is_int (rowid r) ≡ true → has_rowid (id_in (rowid r)) r ≡ true
own r int = let it = Int (id_in (rowid r)) in rw (int_is (rowid r) int) (even (value_cmp it it) (value_cmp_total.antisymm it it))

each_named : (tree rest : List Row) → have_rowids rest ≡ true → ((r : Row) → list_any (λ id. has_rowid id r) (ids_of rest) ≡ true → list_any (λ id. has_rowid id r) (ids_of tree) ≡ true)
    → AllByRecursion (λ r. list_any (λ id. has_rowid id r) (ids_of tree) ≡ true) rest
each_named tree [] all within = tt
each_named tree (r ∷ rest) all within =
    let both = and_parts (is_int (rowid r)) (have_rowids rest) all in
    (within r (rw (own r both.0) refl), each_named tree rest both.1 (λ x there. within x (elim (has_rowid (id_in (rowid r)) x) as (λ b. (b || list_any (λ id. has_rowid id x) (ids_of rest)) ≡ true) [ true ↦ refl | false ↦ there ])))

-- a delete by all rowids leaves no row
pub all_gone : (tree : List Row) (ids : List ℤ) → have_rowids tree ≡ true → IsPermutation (ids_of tree) ids → without_all tree ids ≡ []
all_gone tree ids keyed same =
    none_left ids tree (all_weaker _ _ (λ r here. sym (list_any-IsPermutation (λ id. has_rowid id r) (ids_of tree) ids same) ∙ here) tree (each_named tree tree keyed (λ r here. here)))
