-- What a database holds, as rows without hidden rowids.
use Rattle.std.specs.Prelude.{◌≡◌, ◌∷◌, ℕ, Bool, true, false, ◌==◌, List, [], ◌++◌, map, length, IsPermutation, Option, unwrap_or, zero, suc, Result, OnOk, OnErr, IfErr, Ok, IsTrue, not, ◌&&◌, ◌+◌, filter, fold}
use Rattle.std.specs.List.{range_with_len, list_any}
use Rattle.sqlite.specs.Collation.TheVariants.{Binary}
use Rattle.sqlite_trees.specs.Tree.{IsTable}
use Rattle.sqlite.specs.Order.{Row}
use Rattle.sqlite.specs.Table.{Table}
use Rattle.sqlite.specs.Schema.{Schema}
use Rattle.sqlite.specs.Tree.{Trees}
use Rattle.sqlite.specs.Effect.{Database}
use Rattle.sqlite.specs.State.{State, HasCleanDisk, KeepsCommit, Survives}
use Rattle.sqlite.specs.declared.error.Error.{Error}
use Rattle.sqlite_catalog.specs.Change.{created, next_tree, KeepsRows}
use Rattle.sqlite_catalog.specs.Listing.{Lists}
use Rattle.sqlite_trees.specs.Objects.{catalog_tree}
use Rattle.site_tables.specs.Causes.{HasReason}
use Rattle.site_tables.specs.Tables.{site_schema}
use Rattle.sqlite_value.specs.Order.{column}
use Rattle.sqlite_schema.specs.Rules.{equal}
use Rattle.sqlite_schema.specs.Names.{place_of}
use Rattle.sqlite_rules.specs.Edit.{have_rowids}

-- a stored row as a query shows its columns: a key that is the rowid stands in its place, and a hidden rowid is left out
abbrev pub visible : Table → Row → Row
visible table row = map (λ at. column row (place_of table at)) (range_with_len 0 (length table.columns))

-- the tree holds exactly these rows, in any order
pub record HasRows (table : Table) (rows tree : List Row) : Type 0 where
  pub keyed : have_rowids tree ≡ true
  pub rising : IsTable tree
  pub same : IsPermutation (map (visible table) tree) rows

abbrev pub is_index : Schema → ℕ → Bool
is_index schema tree = list_any (λ i. i.tree == tree) schema.indexes

-- every tree but this one and the indexes is as it was
abbrev pub Keeps : Schema → ℕ → Trees → Trees → Type 0
Keeps schema tree old new = (t : ℕ) → t == tree ≡ false → is_index schema t ≡ false → new t ≡ old t

-- the rows of one table are changed so, and every other table is as it was
pub record Changes (table : Table) (change : List Row → List Row) (old new : Database) : Type 0 where
  pub schema : new.schema ≡ old.schema
  pub rows : (rows : List Row) → HasRows table rows (old.trees table.tree) → HasRows table (change rows) (new.trees table.tree)
  pub others : Keeps old.schema table.tree old.trees new.trees

abbrev pub adds : List Row → List Row → List Row
adds more rows = rows ++ more

-- the transaction continues, or was not begun
pub record GoesOn (old new : State) : Type 0 where
  pub is_open : new.is_open ≡ old.is_open
  pub committed : new.committed ≡ old.committed
  pub mode : new.in_transaction ≡ old.in_transaction

-- one table of a site is changed so, and nothing else
pub record Does (table : Table) (change : List Row → List Row) (old new : State) : Type 0 where
  pub goes_on : GoesOn old new
  pub changes : old.now.schema ≡ site_schema → Changes table change old.now new.now

-- a call inside a transaction changes one table so if it is Ok, fails only for a reason, and commits nothing, so that a crash leaves the old rows
pub record Writes {X : Type 0} (table : Table) (change : List Row → List Row) (old new : State) (result : Result X Error) : Type 0 where
  pub done : HasCleanDisk new → OnOk result (Does table change old new)
  pub undone : HasCleanDisk new → OnErr result (KeepsCommit old new)
  pub cause : HasCleanDisk new → IsTrue old.in_transaction → old.now.schema ≡ site_schema → IfErr result (HasReason old new)
  pub crash : Survives old new (λ _. ⊥)

-- so far all calls were Ok
abbrev pub HasWritten : Table → (List Row → List Row) → State → State → Type 0
HasWritten table change old new = Writes table change old new (Ok (tt {0}))

-- the column of a place of a key, where place 0 is the rowid
abbrev pub column_at : Option ℕ → ℕ → ℕ
column_at key zero = unwrap_or key 0
column_at key (suc place) = place

-- the primary key of a row as a query shows it
abbrev pub key_of : Table → Row → Row
key_of table row = map (λ place. column row (column_at table.key place)) table.primary

-- the row has these values in its primary key, as SQL compares values
abbrev pub agrees_from : ℕ → Option ℕ → List ℕ → Row → Row → Bool
agrees_from at key [] given row = true
agrees_from at key (place ∷ places) given row = equal Binary (column row (column_at key place)) (column given at) && agrees_from (at + 1) key places given row

abbrev pub has_key : Table → Row → Row → Bool
has_key table = agrees_from 0 table.key table.primary

abbrev pub without_key : Table → Row → List Row → List Row
without_key table given rows = filter (λ row. not (has_key table given row)) rows

-- a statement adds a table with no row to the schema, and leaves the others
pub record Makes (table : Table) (schema : Schema) (old new : State) : Type 0 where
  pub goes_on : GoesOn old new
  pub schema_is : old.now.schema ≡ schema → new.now.schema ≡ created schema table
  pub lists : old.now.schema ≡ schema → Lists (new.now.trees catalog_tree) (created schema table)
  pub empty : old.now.schema ≡ schema → new.now.trees (next_tree schema) ≡ []
  pub others : old.now.schema ≡ schema → KeepsRows schema.tables old.now.trees new.now.trees

pub record Creates {X : Type 0} (table : Table) (schema : Schema) (old new : State) (result : Result X Error) : Type 0 where
  pub done : HasCleanDisk new → OnOk result (Makes table schema old new)
  pub undone : HasCleanDisk new → OnErr result (KeepsCommit old new)
  pub cause : HasCleanDisk new → IsTrue old.in_transaction → old.now.schema ≡ schema → IfErr result (HasReason old new)
  pub crash : Survives old new (λ _. ⊥)

-- the row in place of those of its key, or besides the others
abbrev pub puts : Table → Row → List Row → List Row
puts table row rows = adds (row ∷ []) (without_key table (key_of table row) rows)

-- one change after another
abbrev pub changes_each : {X : Type 0} → (X → List Row → List Row) → List X → List Row → List Row
changes_each change xs rows = fold (λ held x. change x held) rows xs
