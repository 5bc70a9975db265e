-- Texts that insert rows.
use Rattle.std.specs.Prelude.{◌≡◌, ℕ, false, List, length, map, Option, None, Ok}
use Rattle.std.specs.List.{flat_map}
use Rattle.sqlite.specs.Order.{Row}
use Rattle.sqlite.specs.Table.{Table}
use Rattle.sqlite.specs.Source.{Source}
use Rattle.sqlite.specs.Command.TheVariants.{Insert}
use Rattle.sqlite.specs.Effect.{Database}
use Rattle.sqlite.specs.Does.{Tally, Does}
use Rattle.sqlite.specs.Given.{IsPlain}
use Rattle.sqlite.specs.Listing.{understood}
use Rattle.sqlite.proofs.Callers.{command_of}
use Rattle.sqlite_schema.specs.declared.schema.Keys.TheVariants.{Enforced}
use Rattle.site_tables.specs.Causes.{IsAlone}
use Rattle.site_tables.specs.TableRows.{Changes, adds}
use Rattle.site_tables.specs.Tables.{site_schema}

-- the text inserts so many rows of the table, whose values are its parameters, one row behind the other, and changes nothing else
pub record Inserts {X : Type 0} (table : Table) (row_of : X → Row) (count : ℕ) (sql : List ℕ) : Type 0 where
  pub at : ℕ
  pub from : Source
  pub command : command_of (understood site_schema sql) ≡ Insert at from
  pub plain : IsPlain (understood site_schema sql)
  pub alone : (xs : List X) → length xs ≡ count → IsAlone site_schema sql (length (flat_map row_of xs))
  pub adds : (xs : List X) → length xs ≡ count → (limit : Option ℕ) (db after : Database) (tally : Tally) (text : List ℕ) → db.schema ≡ site_schema
      → Does limit (record { keys = Enforced; in_doubt = false; may_wait = false }) (flat_map row_of xs) db text None (Insert at from) (Ok (tally, after)) → Changes table (adds (map row_of xs)) db after
