-- The tables, made in their order.
use Rattle.std.specs.Prelude.{◌≡◌, ◌⊎◌, ℕ, false, Ok, List, [], Result, IsTrue, OnOk, OnErr, IfErr}
use Rattle.sqlite.specs.State.{State, HasCleanDisk, KeepsCommit, Survives}
use Rattle.sqlite.specs.Command.TheVariants.{CreateTable}
use Rattle.sqlite.specs.Compile.{table_defined_by}
use Rattle.sqlite.specs.Does.{lacks_sequence}
use Rattle.sqlite.specs.Given.{IsPlain}
use Rattle.sqlite.specs.Listing.{understood}
use Rattle.sqlite.specs.Table.{Table}
use Rattle.sqlite.specs.Schema.{Schema}
use Rattle.sqlite.specs.declared.error.Error.{Error}
use Rattle.sqlite.proofs.Callers.{command_of, statement_of}
use Rattle.sqlite_catalog.specs.Change.{created}
use Rattle.sqlite_rules.specs.Lists.{Has as InList}
use Rattle.sqlite_catalog.specs.Listing.{Lists}
use Rattle.sqlite_trees.specs.Objects.{catalog_tree}
use Rattle.site_tables.specs.Causes.{HasReason, IsAlone}
use Rattle.site_tables.specs.TableRows.{GoesOn}

-- the tables of one schema become those of another, the new ones without rows, and the transaction continues
pub record DoesMake (from to : Schema) (old new : State) : Type 0 where
  pub goes_on : GoesOn old new
  pub schema : old.now.schema ≡ from → new.now.schema ≡ to
  pub lists : old.now.schema ≡ from → Lists (new.now.trees catalog_tree) to
  -- a table that was there is there, with its rows
  pub kept : old.now.schema ≡ from → (t : Table) → InList from.tables t → InList to.tables t × (new.now.trees t.tree ≡ old.now.trees t.tree)
  -- another has none
  pub empty : old.now.schema ≡ from → (t : Table) → InList to.tables t → InList from.tables t ⊎ (new.now.trees t.tree ≡ [])

pub record MakesTables {X : Type 0} (from to : Schema) (old new : State) (result : Result X Error) : Type 0 where
  pub done : HasCleanDisk new → OnOk result (DoesMake from to old new)
  pub undone : HasCleanDisk new → OnErr result (KeepsCommit old new)
  pub cause : HasCleanDisk new → IsTrue old.in_transaction → old.now.schema ≡ from → IfErr result (HasReason old new)
  pub crash : Survives old new (λ _. ⊥)

-- ---- the texts

-- the text makes this table in a database of this schema
pub record IsMade (text : List ℕ) (schema : Schema) (table : Table) : Type 0 where
  pub command : command_of (understood schema text) ≡ CreateTable
  pub plain : IsPlain (understood schema text)
  pub alone : IsAlone schema text 0
  pub whole : statement_of text (understood schema text) ≡ text
  pub defined : table_defined_by text ≡ Ok table
  pub counts : lacks_sequence (created schema table) ≡ false
