-- What the declarations of a site's tables say, where a test of a table asks it.
use Rattle.std.specs.Prelude.{◌≡◌, ℕ, false, true, List, [], ◌∷◌, map, Option, Some, None}
use Rattle.sqlite.specs.Table.{Table}
use Rattle.sqlite.specs.Term.{Term, op2}
use Rattle.sqlite_sql.specs.declared.ops.BinaryOp.TheVariants.{Or}
use Rattle.sqlite_schema.specs.declared.schema.Column.{«Column» as SqlColumn}
use Rattle.sqlite_schema.specs.declared.schema.Index.{«Index» as SqlIndex}
use Rattle.sqlite_schema.specs.declared.schema.Reference.{Reference}
use Rattle.site_tables.specs.Tables.{number, text, maybe_text, rowid_key, equals, to, table_of}
use Rattle.site_tables.specs.declared.declarations.Column.{Column}
use Rattle.site_tables.specs.declared.declarations.Column.TheVariants.{Key, Number, Text, MaybeText}
use Rattle.site_tables.specs.declared.declarations.Check.{Check}
use Rattle.site_tables.specs.declared.declarations.Check.TheVariants.{Nothing, IsOne, IsZeroOrOne}
use Rattle.site_tables.specs.declared.declarations.Parent.{Parent}
use Rattle.site_tables.specs.declared.declarations.Declaration.{Declaration}
use Rattle.site_tables.specs.declared.declarations.Index.{Index}

abbrev pub column_as : Column → SqlColumn
column_as (Key name) = rowid_key name.now
column_as (Number name) = number name.now
column_as (Text name) = text name.now
column_as (MaybeText name) = maybe_text name.now

abbrev pub checks_as : Check → List Term
checks_as Nothing = []
checks_as (IsOne place) = equals place 1 ∷ []
checks_as (IsZeroOrOne place) = op2 Or (equals place 0) (equals place 1) ∷ []

abbrev pub uniques_as : List ℕ → List (List ℕ)
uniques_as [] = []
uniques_as (first ∷ rest) = (first ∷ rest) ∷ []

abbrev pub references_as : Option Parent → List Reference
references_as None = []
references_as (Some p) = to (p.place ∷ []) p.table.now p.column.now ∷ []

-- the table of a declaration
abbrev pub table_as : Declaration → Table
table_as d = table_of d.name.now d.tree (map column_as d.columns.now) d.key d.primary.now (uniques_as d.unique.now) (checks_as d.check) (references_as d.parent)

-- the index of a UNIQUE
abbrev pub index_as : Index → SqlIndex
index_as i = record { name = i.name.now; tree = i.tree; table = i.table; columns = i.columns.now; order = record { digits = 0 }; is_unique = true }

-- its name, its tree and its keys, with no computed default and no AUTOINCREMENT
pub record IsNamed (d : Declaration) (table : Table) : Type 0 where
  pub name_is : table.name ≡ d.name.now
  pub tree_is : table.tree ≡ d.tree
  pub key_is : table.key ≡ d.key
  pub primary_is : table.primary ≡ d.primary.now
  pub computed : table.computed ≡ []
  pub stamps : table.stamps ≡ record { places = []; terms = []; formats = [] }
  pub counted : table.is_counted ≡ false

-- the lists of places of its UNIQUEs, each in plain order
pub record HasUniques (uniques : List (List ℕ)) (table : Table) : Type 0 where
  pub places : table.uniques ≡ uniques
  pub orders : table.orders ≡ map (λ _. record { digits = 0 }) uniques
