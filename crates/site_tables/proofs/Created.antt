-- What a text that makes a table does.
use Rattle.std.proofs.Common.{◌≡◌, inl, inr, ℕ, List, [], false, None, Ok, Err, Result, OnOk, IsTrue, refl, sym, ap, subst, ◌∙◌}
use Rattle.std.proofs.lemmas.Bool.{cases_Bool}
use Rattle.sqlite.specs.Table.{Table}
use Rattle.sqlite.specs.Schema.{Schema}
use Rattle.sqlite.specs.Command.TheVariants.{CreateTable}
use Rattle.sqlite.specs.Change.{created, next_tree}
use Rattle.sqlite_catalog.specs.Change.{KeepsRows}
use Rattle.sqlite_catalog.specs.Listing.{Lists}
use Rattle.sqlite_trees.specs.Objects.{catalog_tree}
use Rattle.sqlite.specs.declared.error.Error.{Error}
use Rattle.sqlite.specs.Effect.{Database}
use Rattle.sqlite.specs.Does.{Tally, lacks_sequence}
use Rattle.sqlite.specs.State.{State, Writes, Executes, ExecutesInside}
use Rattle.sqlite.proofs.Callers.{runs_as}
use Rattle.site_tables.specs.Made.{IsMade}
use Rattle.site_tables.specs.TableRows.{Makes, Creates}
use Rattle.site_tables.proofs.Causes.{fails_for}
use Rattle.site_tables.proofs.Inserted.{went, same_value}
use Rattle.site_tables.proofs.Steps.{Ran, keeps}

pub made : (text : List ℕ) (schema : Schema) (table : Table) → IsMade text schema table → (old new : State) (count : ℕ) → old.now.schema ≡ schema → Executes text [] old new (Ok count)
    → (new.now.schema ≡ created schema table) × (new.now.trees (next_tree schema) ≡ []) × KeepsRows schema.tables old.now.trees new.now.trees
made text schema table is old new count has h =
    let w = subst (λ t. Writes old new None CreateTable t [] count) is.whole (runs_as text [] old new schema has CreateTable is.command is.plain count h) in
    let all = went w.changed in
    let first = went all.1 in
    let it = first.1 in
    let both : Ok it.table ≡ Ok table = sym it.defined ∙ is.defined in
    let same : it.table ≡ table = cc in
    let after : first.0.schema ≡ created schema table = it.is ∙ ap (λ s. created s it.table) has ∙ ap (created schema) same in
    let plain : lacks_sequence first.0.schema ≡ false = ap lacks_sequence after ∙ is.counts in
    let now : new.now ≡ first.0 = ap (λ (p : Tally × Database). p.1) (same_value all.2) ∙ same_value (rw plain at first.2) in (
      ap (λ (d : Database). d.schema) now ∙ after,
      ap (λ (d : Database). d.trees (next_tree schema)) now ∙ subst (λ s. first.0.trees (next_tree s) ≡ []) has it.empty,
      subst (λ (d : Database). KeepsRows schema.tables old.now.trees d.trees) (sym now) (subst (λ (s : Schema). KeepsRows s.tables old.now.trees first.0.trees) has it.others),
    )

-- the database lists the schema that there is then
listed : (text : List ℕ) (schema : Schema) (table : Table) → IsMade text schema table → (old new : State) (count : ℕ) → old.now.schema ≡ schema → Executes text [] old new (Ok count) → Lists (new.now.trees catalog_tree) (created schema table)
listed text schema table is old new count has h =
    let w = subst (λ t. Writes old new None CreateTable t [] count) is.whole (runs_as text [] old new schema has CreateTable is.command is.plain count h) in
    subst (λ s. Lists (new.now.trees catalog_tree) s) (made text schema table is old new count has h).0 w.sound.lists

makes : (text : List ℕ) (schema : Schema) (table : Table) → IsMade text schema table → (old new : State) (r : Result ℕ Error) (late : Error) → (old.in_transaction ≡ false → r ≡ Err late)
    → (IsTrue old.in_transaction → ExecutesInside 0 text [] old new r) → OnOk r (Makes table schema old new)
makes text schema table is old new (Err e) late ended runs = tt {0}
makes text schema table is old new (Ok count) late ended runs = elim (cases_Bool old.in_transaction) [
  | inl inside ↦ let ran = runs inside in record {
    goes_on = record { is_open = ran.1.is_open ∙ sym ran.1.was_open; committed = ran.1.committed_is; mode = ran.1.mode ∙ sym inside };
    schema_is = λ has. (made text schema table is old new count has ran.0).0;
    lists = λ has. listed text schema table is old new count has ran.0;
    empty = λ has. (made text schema table is old new count has ran.0).1;
    others = λ has. (made text schema table is old new count has ran.0).2;
  }
  | inr outside ↦ absurd (let e = ended outside in cc)
]

pub creates : {text : List ℕ} {schema : Schema} {table : Table} → IsMade text schema table → {old new : State} {r : Result ℕ Error} → Ran text [] old new r → Creates table schema old new r
creates {text} {schema} {table} is {old} {new} {r} ran = record {
  done = λ clean. makes text schema table is old new r ran.late ran.ended (ran.runs clean);
  undone = λ clean. keeps text [] old new r ran.same (ran.runs clean);
  cause = λ clean inside has. fails_for schema text [] CreateTable is.command is.plain is.alone refl old new has r (ran.runs clean inside);
  crash = ran.survives;
}
