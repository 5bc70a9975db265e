-- What every table makes of its rows.
use Rattle.std.proofs.Common.{◌≡◌, ℕ, ℤ, List, [], ◌++◌, Bool, true, false, cond, if◌then◌else◌, Option, None, Some, Result, Ok, Err, OnOk, is_ok, ◌&&◌, ◌||◌, slice_get, refl, ap, ◌∙◌}
use Rattle.sqlite.specs.declared.types.Value.{Value}
use Rattle.sqlite.specs.declared.types.Value.TheVariants.{Null, Int, Text}
use Rattle.sqlite.specs.Values.{bound, bound_value, or_null}
use Rattle.sqlite_value.specs.declared.value.ValueRef.{ValueRef}
use Rattle.std.proofs.lemmas.List.{map-append}
use Rattle.sqlite.specs.Order.{Row}
use Rattle.sqlite.specs.Table.{Table}
use Rattle.sqlite.specs.Ops.{unary}
use Rattle.sqlite.specs.Kind.TheVariants as kind
use Rattle.sqlite_rules.specs.Cast.{cast}
use Rattle.std.specs.Prelude.{◌==◌, length}
use Rattle.std.specs.List.{flat_map, filter_map}
use Rattle.sqlite_schema.specs.declared.schema.Keys.TheVariants.{Enforced}
use Rattle.sqlite_schema.specs.Rules.{parent_key}
use Rattle.sqlite_rules.specs.Action.{works, work_by, pairs, deed_for}
use Rattle.site_tables.specs.Tables.{site_schema}
use Rattle.site_tables.proofs.Inserted.{IsSimple}

either : (b : Bool) (x : Value) → cond b x x ≡ x
either true x = refl
either false x = refl

pub cast_null : cast kind.Integer Null ≡ Null
unfolding unary
cast_null = either _ Null

pub cast_int : (n : ℤ) → cast kind.Integer (Int n) ≡ Int n
unfolding unary
cast_int n = either _ (Int n)

pub cast_text : (o : Option (List ℕ)) → cast kind.Text (or_null Text o) ≡ or_null Text o
cast_text None = refl
cast_text (Some t) = refl

-- a text that may be missing is bound as it is
pub bound_text : (o : Option (List ℕ)) → bound_value (or_null Text o) ≡ or_null Text o
bound_text None = refl
bound_text (Some t) = refl

-- no reference asks for anything when a row goes or changes
pub quiet : (tree : ℕ) (gone news : List Row) → works site_schema Enforced 0 tree gone news ≡ []
quiet tree gone news = elim (length news == 0) as (λ b. flat_map (λ child. filter_map (λ ref. work_by 0 tree (pairs gone news) child ref (deed_for Enforced b ref) (parent_key site_schema.tables ref)) child.references) site_schema.tables ≡ []) [
  | true ↦ refl
  | false ↦ refl
]

-- a table at its place in the schema, which counts and stamps no row, is changed by its own statements alone
pub simple_at : (at : ℕ) (table : Table) → slice_get site_schema.tables at ≡ Some table → table.is_counted ≡ false → table.stamps.terms ≡ [] → IsSimple site_schema at table
simple_at at table listed uncounted unstamped = record { listed = listed; uncounted = uncounted; unstamped = unstamped; adds = quiet table.tree []; removes = λ gone. quiet table.tree gone [] }

-- the test of a key is SQL's = of the rowid and the number
pub alone : (b : Bool) → ((b && true) || false) ≡ b
alone true = refl
alone false = refl

pub and_true : (b : Bool) → b ≡ (b && true)
and_true true = refl
and_true false = refl

-- a text that may be missing
pub text_or_null : (a b : Option (List ℕ)) → or_null Text a ≡ or_null Text b → a ≡ b
text_or_null None None e = refl
text_or_null None (Some b) e = absurd cc
text_or_null (Some a) None e = absurd cc
text_or_null (Some a) (Some b) e = cc

-- values behind others
pub pushed : {E : Type 0} (r : Result (Unit {0}) E) (old more new : List ValueRef) (row : Row) → new ≡ (if is_ok r then old ++ more else old) → bound more ≡ row → OnOk r (bound new ≡ bound old ++ row)
pushed (Ok n) old more new row items is = ap bound items ∙ map-append _ old more ∙ ap (λ r. bound old ++ r) is
pushed (Err e) old more new row items is = tt
