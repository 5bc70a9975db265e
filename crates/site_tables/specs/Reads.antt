-- What the queries of the tables find.
use Rattle.std.specs.Prelude.{◌≡◌, ◌≢◌, ◌⊎◌, ⊤, false, ℕ, ◌+◌, nat_le, List, [], ◌∷◌, ◌++◌, map, length, IsPermutation, IsSorted, IsSome, IsTrue, Option, Ok}
use Rattle.std.specs.Ordering.{on}
use Rattle.std.specs.declared.cmp.Ordering.{Ordering}
use Rattle.std.specs.declared.cmp.Ordering.TheVariants.{Less}
use Rattle.sqlite.specs.Collation.TheVariants.{Binary}
use Rattle.sqlite_value.specs.Keys.{ascending}
use Rattle.sqlite_trees.specs.Tree.{IsAscending}
use Rattle.sqlite_sql.specs.Query.{key_cmp}
use Rattle.sqlite_trees.specs.declared.error.StoreError.{StoreError}
use Rattle.sqlite.specs.declared.error.Error.{Error}
use Rattle.sqlite.specs.declared.error.Error.TheVariants.{SqliteFailure}
use Rattle.sqlite.specs.declared.error.ErrorCode.TheVariants.{OperationInterrupted}
use Rattle.sqlite.specs.Effect.{RefusesToRead}
use Rattle.sqlite.specs.Order.{Row}
use Rattle.sqlite.specs.Tree.{Trees}
use Rattle.sqlite.specs.Table.{Table}
use Rattle.sqlite.specs.State.{State, Begins, IsUnchanged, Survives, FailsToQuery, HasCause, store_error}
use Rattle.sqlite_trees.specs.declared.store.Store.{Ghosts}
use Rattle.sqlite.specs.Held.{Held, state}
use Rattle.sqlite.specs.Given.{IsPlain}
use Rattle.sqlite.specs.Listing.{understood, reads_listing}
use Rattle.sqlite.specs.Query.{output}
use Rattle.sqlite.proofs.Callers.{command_of}
use Rattle.site_tables.specs.Commands.{by_key, selects_all}
use Rattle.site_rows.specs.declared.tables.Table.{«Table» as SiteTable}
use Rattle.site_tables.specs.declared.faults.ReadFault.{ReadFault}
use Rattle.site_tables.specs.declared.faults.ReadFault.TheVariants.{NoMemory, OtherTables, BadRow, Database}
use Rattle.site_rows.specs.declared.tables.Version.{Version}
use Rattle.site_tables.specs.Tables.{schema_under}
use Rattle.site_tables.specs.TableRows.{key_of, visible}

abbrev pub key_order : Table → Row → Row → Ordering
key_order table = on (key_of table) (key_cmp 0 (map (λ _. ascending Binary) table.primary))

-- the keys rise, so no two rows have one key
abbrev pub IsStrict : Table → List Row → Type 0
IsStrict table = IsAscending (λ a b. key_order table a b ≡ Less)

-- the rows of a tree as a query shows them, by their keys
pub record IsListed (table : Table) (tree rows : List Row) : Type 0 where
  pub same : IsPermutation (map (visible table) tree) rows
  pub sorted : IsSorted (key_order table) rows

-- in a database of the version the text shows the rows of the table by their keys
pub record Selects (v : Version) (table : Table) (sql : List ℕ) : Type 0 where
  pub command : command_of (understood (schema_under v) sql) ≡ selects_all table
  pub plain : IsPlain (understood (schema_under v) sql)
  -- it is one statement, with no parameter
  pub alone : (c : _) × (understood (schema_under v) sql ≡ Ok c) × IsTrue (nat_le (length sql) c.tail) × (c.names ≡ [])
  pub listing : reads_listing (schema_under v) sql ≡ false
  -- only the limit on steps refuses it
  pub accepted : (limit : Option ℕ) (trees : Trees) (e : Error) → RefusesToRead limit (selects_all table) (record { schema = schema_under v; trees = trees }) [] e → (e ≡ SqliteFailure OperationInterrupted) × IsSome limit
  -- the query's key of a row is that of the row as it is shown
  pub keyed : (row : Row) → (output (by_key table) ([] ∷ row ∷ [])).0 ≡ key_of table (visible table row)

-- no value of a type stands for the row
abbrev pub IsBadRow : {X : Type 0} → (X → Row) → Row → Type 0
IsBadRow {X} row_of row = (x : X) → row ≢ row_of x

-- the rows of the table by their keys are some that are read, then this one, at this place from 1, for which no value
-- stands, and others
abbrev pub HasBadRow : {X : Type 0} → Table → (X → Row) → ℕ → List Row → Type 0
HasBadRow {X} table row_of place tree =
    (read : List X) × (row : Row) × (others : List Row) × IsListed table tree (map row_of read ++ row ∷ others) × (place ≡ length read + 1) × IsBadRow row_of row

-- why the database fails while a table of a site is read: memory ran out, the disk failed, the connection was shut
-- already, or its limit on steps was met
abbrev pub FailsToRead : State → State → Error → Type 0
FailsToRead old new e = ((cause : StoreError) × (e ≡ store_error cause) × HasCause old new ⊥ cause) ⊎ ((e ≡ SqliteFailure OperationInterrupted) × IsSome old.step_limit)

-- why the rows of a table of the version aren't read: the tables aren't those of the version, or they are, and memory ran
-- out, or the table has a bad row, and nothing is changed, or the database failed
abbrev pub IsReadFault : {X : Type 0} → Version → SiteTable → Table → (X → Row) → State → State → ReadFault → Type 0
IsReadFault v named table row_of old new OtherTables = old.now.schema ≢ schema_under v
IsReadFault v named table row_of old new NoMemory = old.now.schema ≡ schema_under v
IsReadFault v named table row_of old new (BadRow t place) = (old.now.schema ≡ schema_under v) × (t ≡ named) × HasBadRow table row_of place (old.now.trees table.tree) × IsUnchanged old new
IsReadFault v named table row_of old new (Database e) = (old.now.schema ≡ schema_under v) × FailsToRead old new e

-- ---- a query whose rows are read one at a time

-- it shows a bad row at this place, from 1, and nothing is changed
abbrev pub ShowsBadRow : {X : Type 0} → List ℕ → (X → Row) → ℕ → State → State → Type 0
ShowsBadRow {X} sql row_of place old new = IsUnchanged old new × (read : List X) × (row : Row) × Begins sql [] new (map row_of read ++ row ∷ []) × (place ≡ length read + 1) × IsBadRow row_of row

-- it fails at a later row than its first
abbrev pub FailsAtRow : {S : Type 0} → Ghosts S → List ℕ → Held S → Held S → Error → Type 0
FailsAtRow {S} g sql old new e = (mid : Held S) × IsUnchanged (state g old) (state g mid) × Survives (state g old) (state g mid) (λ _. ⊥) × FailsToQuery sql [] (state g mid) (state g new) e

-- why it gives no rows
abbrev pub FailsToList : {S X : Type 0} → Ghosts S → SiteTable → List ℕ → (X → Row) → Held S → Held S → ReadFault → Type 0
FailsToList g table sql row_of old new NoMemory = ⊤
FailsToList g table sql row_of old new OtherTables = ⊥
FailsToList g table sql row_of old new (BadRow t place) = (t ≡ table) × ShowsBadRow sql row_of place (state g old) (state g new)
FailsToList g table sql row_of old new (Database e) = FailsToQuery sql [] (state g old) (state g new) e ⊎ FailsAtRow g sql old new e
