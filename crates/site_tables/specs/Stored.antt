-- The rows of all tables, and a connection that keeps them.
use Rattle.std.specs.Prelude.{◌≡◌, ◌⊎◌, ◌==◌, Bool, false, List, [], map, if◌then◌else◌, IsTrue, Result, OnOk, OnErr, IfErr}
use Rattle.std.specs.List.{list_any}
use Rattle.sqlite.specs.Order.{Row}
use Rattle.sqlite.specs.Tree.{Trees}
use Rattle.sqlite.specs.State.{State, HasCleanDisk, KeepsCommit, Survives}
use Rattle.sqlite_catalog.specs.Listing.{Lists}
use Rattle.sqlite_trees.specs.Objects.{catalog_tree}
use Rattle.sqlite.specs.declared.error.Error.{Error}
use Rattle.site_rows.specs.declared.rows.Rows.{Rows}
use Rattle.site_rows.specs.declared.tables.Table.{«Table» as SiteTable}
use Rattle.site_tables.specs.Causes.{HasReason}
use Rattle.site_rows.specs.declared.tables.Version.{Version}
use Rattle.site_rows.specs.declared.tables.Version.TheVariants.{Second}
use Rattle.site_tables.specs.Tables.{Has, declared, schema_under, site_schema}
use Rattle.site_tables.specs.TableRows.{HasRows, GoesOn}
use Rattle.site_tables.specs.Values.{values_of, rows_in}

-- the rows of each table
abbrev pub Contents : Type 0
Contents = SiteTable → List Row

-- the rows of the code
abbrev pub contents_of : Rows → Contents
contents_of rows t = map (values_of t) (rows_in rows t)

abbrev pub no_rows : Contents
no_rows t = []

-- the tables of the version hold these rows and no others, in any order, and there are none of another table; and the
-- database lists these tables with their indexes, and nothing else
pub record HoldsUnder (v : Version) (rows : Contents) (trees : Trees) : Type 0 where
  pub lists : Lists (trees catalog_tree) (schema_under v)
  pub has : (t : SiteTable) → Has v t → HasRows (declared t) (rows t) (trees (declared t).tree)
  pub rest : (t : SiteTable) → ¬ Has v t → rows t ≡ []

abbrev pub Holds : Contents → Trees → Type 0
Holds = HoldsUnder Second

-- between two steps: a crash leaves these rows and no others
pub record IsStoredUnder (v : Version) (rows : Contents) (s : State) : Type 0 where
  pub is_open : IsTrue s.is_open
  pub autocommit : s.in_transaction ≡ false
  pub settled : s.now ≡ s.committed
  pub schema : s.committed.schema ≡ schema_under v
  pub holds : HoldsUnder v rows s.committed.trees
  pub crash : (db : Trees) → s.may_leave db → HoldsUnder v rows db

abbrev pub IsStored : Contents → State → Type 0
IsStored = IsStoredUnder Second

-- after a step that failed: a crash leaves the old rows or the new, and while the connection is open the old alone
pub record IsStopped (before after : Contents) (s : State) : Type 0 where
  pub crash : (db : Trees) → s.may_leave db → Holds before db ⊎ Holds after db
  pub kept : IsTrue s.is_open → IsStored before s

-- ---- inside a transaction

-- what is made of the rows of each table
abbrev pub Change : Type 0
Change = SiteTable → List Row → List Row

abbrev pub after : Change → Contents → Contents
after change rows t = change t (rows t)

-- the table is one of these; its tree tells it from the others
abbrev pub among : SiteTable → List SiteTable → Bool
among t tables = list_any (λ one. (declared one).tree == (declared t).tree) tables

-- of these tables alone
unfoldable pub only : List SiteTable → Change → Change
only tables change t rows = if among t tables then change t rows else rows

-- the rows are changed so, and the transaction continues
pub record DoesAll (change : Change) (old new : State) : Type 0 where
  pub goes_on : GoesOn old new
  pub schema : old.now.schema ≡ site_schema → new.now.schema ≡ site_schema
  pub holds : old.now.schema ≡ site_schema → (rows : Contents) → Holds rows old.now.trees → Holds (after change rows) new.now.trees

pub record WritesAll {X : Type 0} (change : Change) (old new : State) (result : Result X Error) : Type 0 where
  pub done : HasCleanDisk new → OnOk result (DoesAll change old new)
  pub undone : HasCleanDisk new → OnErr result (KeepsCommit old new)
  pub cause : HasCleanDisk new → IsTrue old.in_transaction → old.now.schema ≡ site_schema → IfErr result (HasReason old new)
  pub crash : Survives old new (λ _. ⊥)
