-- What an insert or a delete leaves of the rows of a table, and of the other tables.
use Rattle.std.proofs.Common.{◌≡◌, ◌≢◌, ℕ, ◌==◌, List, [], ◌∷◌, ◌++◌, map, true, false, not, subst, append-nil, append_assoc}
use Rattle.std.specs.List.{AllByRecursion, list_any}
use Rattle.std.proofs.lemmas.Bool.{or_parts, and_parts, not-true, eqb-false}
use Rattle.sqlite.specs.Order.{Row}
use Rattle.sqlite.specs.Table.{Table}
use Rattle.sqlite.specs.Schema.{Schema}
use Rattle.sqlite.specs.Tree.{Trees}
use Rattle.sqlite_schema.specs.declared.schema.Index.{Index}
use Rattle.sqlite_schema.specs.declared.schema.Keys.TheVariants.{Enforced}
use Rattle.sqlite_trees.specs.Tree.{rowid, put_row}
use Rattle.sqlite_trees.specs.View.{is_int}
use Rattle.sqlite_rules.specs.declared.error.Rowids.TheVariants.{Chosen}
use Rattle.sqlite_rules.specs.Cast.{cast_row}
use Rattle.sqlite_rules.specs.Edit.{Edit, Applies, edit_of, with_rowid, is_taken, numbered, are_fresh, have_rowids, put_all}
use Rattle.site_tables.specs.TableRows.{visible, HasRows, Keeps}
use Rattle.site_tables.proofs.RowLemmas.{has_one_more}

differ : (a b : ℕ) → a == b ≡ false → a ≢ b
differ a b none = eqb-false a b none

no_index : (tree : ℕ) (indexes : List Index) → list_any (λ i. i.tree == tree) indexes ≡ false → AllByRecursion (λ i. i.tree ≢ tree) indexes
no_index tree [] none = tt
no_index tree (i ∷ indexes) none = let both = or_parts (i.tree == tree) (list_any (λ i. i.tree == tree) indexes) none in (differ i.tree tree both.0, no_index tree indexes both.1)

pub keeps_others : (schema : Schema) (db next : Trees) (edit : Edit) → Applies schema Enforced db edit next → Keeps schema edit.table.tree db next
keeps_others schema db next edit done t other plain = done.others t (differ t edit.table.tree other) (no_index t schema.indexes plain)

-- ---- rows that a table numbers and puts in, one after another

abbrev stored : Table → List Row → List Row → List Row
stored table tree sources = numbered Chosen tree (map (λ s. cast_row table s) sources)

module _ {X : Type 0} (table : Table) (source_of shown : X → Row) (shows : (x : X) (tree : List Row) → visible table (with_rowid Chosen tree (cast_row table (source_of x))) ≡ shown x) where
  has_more : (xs : List X) (rows tree : List Row) → have_rowids (stored table tree (map source_of xs)) ≡ true → are_fresh tree (stored table tree (map source_of xs)) ≡ true
      → HasRows table rows tree → HasRows table (rows ++ map shown xs) (put_all tree (stored table tree (map source_of xs)))
  has_more [] rows tree keyed fresh has = rw append-nil has
  has_more (x ∷ xs) rows tree keyed fresh has =
      let new = with_rowid Chosen tree (cast_row table (source_of x)) in
      let ids = and_parts (is_int (rowid new)) _ keyed in
      let free = and_parts (not (is_taken tree new)) _ fresh in
      let one = has_one_more table rows tree new (shown x) ids.0 (not-true (is_taken tree new) free.0) (shows x tree) has in
      subst (λ all. HasRows table all (put_all (put_row new tree) (stored table (put_row new tree) (map source_of xs)))) (append_assoc rows (shown x ∷ []) (map shown xs)) (has_more xs (rows ++ shown x ∷ []) (put_row new tree) ids.1 free.1 one)

  pub has_inserted : (schema : Schema) (xs : List X) (db next : Trees) (rows : List Row) → Applies schema Enforced db (edit_of db table [] Chosen 0 (map source_of xs)) next
      → HasRows table rows (db table.tree) → HasRows table (rows ++ map shown xs) (next table.tree)
  has_inserted schema xs db next rows done has = rw done.rows (has_more xs rows (db table.tree) done.keyed done.fresh has)
