-- Why a call of the database fails.
use Rattle.std.specs.Prelude.{◌≡◌, ◌⊎◌, ⊤, ℕ, nat_le, Bool, true, false, List, length, Option, Some, Ok, Err, IsTrue}
use Rattle.sqlite_trees.specs.declared.error.StoreError.{StoreError}
use Rattle.sqlite_schema.specs.declared.command.Returning.{Returning}
use Rattle.sqlite_schema.specs.declared.schema.Schema.{Schema}
use Rattle.sqlite_resolve.specs.declared.compiled.Compiled.{Compiled}
use Rattle.sqlite.specs.declared.error.Error.{Error}
use Rattle.sqlite.specs.declared.error.Error.TheVariants.{SqliteFailure, SqlInputError, InvalidQuery}
use Rattle.sqlite.specs.declared.error.ErrorCode.{ErrorCode}
use Rattle.sqlite.specs.declared.error.ErrorCode.TheVariants as code
use Rattle.sqlite.specs.declared.run.Mode.{Mode}
use Rattle.sqlite.specs.Command.{Command}
use Rattle.sqlite.specs.Command.TheVariants.{Insert, InsertOr, Update, Delete, CreateTable}
use Rattle.sqlite.specs.Does.{Does}
use Rattle.sqlite.specs.Effect.{Database}
use Rattle.sqlite.specs.Listing.{understood}
use Rattle.sqlite.specs.Order.{Row}
use Rattle.sqlite.specs.State.{State, HasCause, store_error}

-- the store failed: the disk did, or it was shut, or memory ran out, or a row was too large to keep
abbrev pub StoreFails : State → State → Error → Type 0
StoreFails old new e = (cause : StoreError) × (e ≡ store_error cause) × HasCause old new ⊤ cause

-- the command writes rows, or makes a table
abbrev pub is_write : Command → Bool
is_write (Insert at from) = true
is_write (InsertOr at way from clauses) = true
is_write (Update at q) = true
is_write (Delete at q) = true
is_write CreateTable = true
is_write other = false

-- some database refuses some command that writes with this error
pub record IsRefusal (e : Error) : Type 0 where
  pub limit : Option ℕ
  pub mode : Mode
  pub params : Row
  pub db : Database
  pub text : List ℕ
  pub returning : Option Returning
  pub command : Command
  pub writes : is_write command ≡ true
  pub refused : Does limit mode params db text returning command (Err (Some e))

-- The errors by which a command that writes is refused: a rule is broken, a value has another type than its column, a sum
-- or a rowid is past the greatest number, a foreign key refers to no key or acts too deep, no table may have this name,
-- key or text, there are too many of them, the limit on steps is met, or the text is another command's.
abbrev pub is_code_of_refusal : ErrorCode → Bool
is_code_of_refusal (code.ConstraintViolation rule) = true
is_code_of_refusal code.TypeMismatch = true
is_code_of_refusal code.IntegerOverflow = true
is_code_of_refusal code.NoRowid = true
is_code_of_refusal code.ForeignKeyMismatch = true
is_code_of_refusal code.TooDeep = true
is_code_of_refusal code.NameTaken = true
is_code_of_refusal code.BadName = true
is_code_of_refusal code.BadKey = true
is_code_of_refusal code.BadText = true
is_code_of_refusal code.SchemaTooBig = true
is_code_of_refusal code.OperationInterrupted = true
is_code_of_refusal other = false

abbrev pub is_of_refusal : Error → Bool
is_of_refusal (SqliteFailure code) = is_code_of_refusal code
is_of_refusal (SqlInputError why) = true
is_of_refusal InvalidQuery = true
is_of_refusal other = false

abbrev pub RefusalsAreNamed : Type 0
RefusalsAreNamed = (e : Error) → IsRefusal e → is_of_refusal e ≡ true

abbrev pub HasReason : State → State → Error → Type 0
HasReason old new e = StoreFails old new e ⊎ IsRefusal e

-- the text is one statement, with so many parameters
abbrev pub IsAlone : Schema → List ℕ → ℕ → Type 0
IsAlone schema sql count = (c : Compiled) × (understood schema sql ≡ Ok c) × IsTrue (nat_le (length sql) c.tail) × (length c.names ≡ count)
