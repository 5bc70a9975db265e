-- What rows that were read say of the rows that a table holds.
use Rattle.std.proofs.Common.{◌≡◌, ◌⊎◌, ℕ, ◌+◌, ◌++◌, ◌∷◌, List, [], length, map, Ok, Err, Result, IfOk, Vec, refl, sym, subst, ⊎_elim}
use Rattle.std.specs.declared.alloc.Global.{Global}
use Rattle.std.proofs.lemmas.Cmp.{on_total}
use Rattle.std.proofs.lemmas.List.Sorted.{IsPermutation-sym, IsPermutation-trans}
use Rattle.sqlite.specs.Order.{Row}
use Rattle.sqlite.specs.Table.{Table}
use Rattle.sqlite_trees.specs.declared.store.Store.{Ghosts}
use Rattle.sqlite.specs.Held.{Held, state}
use Rattle.sqlite.specs.State.{IsUnchanged, Shown, Begins}
use Rattle.site_rows.specs.declared.tables.Table.{«Table» as SiteTable}
use Rattle.site_tables.specs.declared.faults.ReadFault.{ReadFault}
use Rattle.site_tables.specs.declared.faults.ReadFault.TheVariants as faults
use Rattle.sqlite_sql.proofs.QueryLemmas.{key_cmp_total}
use Rattle.site_tables.specs.Reads.{key_order, IsBadRow, IsStrict, IsListed, FailsToList, Selects}
use Rattle.site_rows.specs.declared.tables.Version.{Version}
use Rattle.site_tables.specs.Tables.{schema_under}
use Rattle.site_tables.specs.TableRows.{visible, HasRows, key_of}
use Rattle.site_tables.proofs.Answered.{reads_still}
use Rattle.site_tables.proofs.Order.{sorted_is}

-- there is but one list of a table's rows by strict keys
pub listed_is : (table : Table) (xs rows tree : List Row) → HasRows table xs tree → IsStrict table xs → IsListed table tree rows → rows ≡ xs
listed_is table xs rows tree has strict listed =
    let shown = map (visible table) tree in
    sorted_is (key_order table) (on_total (key_of table) (key_cmp_total _ 0)) xs rows strict (IsPermutation-trans xs shown rows (IsPermutation-sym shown xs has.same) listed.same) listed.sorted

module _ {v : Version} {S : Type 0} (g : Ghosts S) (table : Table) {X : Type 0} (row_of : X → Row) (sql : List ℕ) (is : Selects v table sql) (old new : Held S) (has : old.schema ≡ schema_under v) where
  -- what `read_each` says of a text that shows a whole table
  pub read_listed : {Y : Type 0} (r : Result (Vec X Global) Y) → IfOk r (λ rows. (mid : Held S) × IsUnchanged (state g old) (state g mid) × Shown sql [] (state g mid) (state g new) (map row_of rows.items))
      → IfOk r (λ rows. IsListed table ((state g old).now.trees table.tree) (map row_of rows.items))
  read_listed (Ok rows) h = reads_still table sql is (state g old) (state g h.0) (state g new) (map row_of rows.items) has h.1 h.2
  read_listed (Err e) h = tt

-- a row that no value stands for is the one after those that were given
pub bad_row : {S X : Type 0} (g : Ghosts S) (table : SiteTable) (sql : List ℕ) (row_of : X → Row) (old new : Held S) (place : ℕ) (fault : ReadFault) (row : Row) (read : List X)
    → IsUnchanged (state g old) (state g new) → Begins sql [] (state g new) (map row_of read ++ row ∷ []) → place ≡ length read + 1
    → (fault ≡ faults.NoMemory) ⊎ ((fault ≡ faults.BadRow table place) × IsBadRow row_of row) → FailsToList g table sql row_of old new fault
bad_row g table sql row_of old new place fault row read still begins at why =
    ⊎_elim (λ none. subst (FailsToList g table sql row_of old new) (sym none) (tt {0}))
    (λ bad. subst (FailsToList g table sql row_of old new) (sym bad.0) (refl, (still, read, row, begins, at, bad.1))) why
