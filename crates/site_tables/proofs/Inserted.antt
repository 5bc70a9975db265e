-- What a text that inserts rows does to the trees.
use Rattle.std.proofs.Common.{◌≡◌, ◌⊎◌, inl, inr, ℕ, ℤ, ◌+◌, ◌/◌, List, [], ◌∷◌, length, map, slice_get, false, Option, None, Some, Ok, Err, Result, refl, sym, ap, subst, subst₂, ◌∙◌, append-nil, arith}
use Rattle.std.specs.List.{flat_map}
use Rattle.sqlite.specs.Order.{Row}
use Rattle.sqlite.specs.Term.{Term, eval_all}
use Rattle.sqlite.specs.Table.{Table}
use Rattle.sqlite.specs.Schema.{Schema}
use Rattle.sqlite.specs.Source.TheVariants.{Values}
use Rattle.sqlite.specs.Command.TheVariants.{Insert}
use Rattle.sqlite.specs.Tree.{Trees}
use Rattle.sqlite.specs.Edit.{edit_of}
use Rattle.sqlite.specs.Rowids.TheVariants.{Chosen}
use Rattle.sqlite_schema.specs.declared.schema.Keys.TheVariants.{Enforced}
use Rattle.sqlite_rules.specs.Edit.{Applies, with_rowid}
use Rattle.sqlite_rules.specs.Cast.{cast_row}
use Rattle.sqlite_rules.specs.Action.{works, Writes}
use Rattle.sqlite.specs.Effect.{Database, value_rows}
use Rattle.sqlite.specs.Does.{Tally, AtPlace, OnRows, OnTable, WritesRows, Concludes}
use Rattle.sqlite.specs.Rows.{Written, Task, Inserts as PutsIn, stamped, Counts, rowids_for}
use Rattle.sqlite.specs.declared.run.Mode.{Mode}
use Rattle.sqlite.specs.Command.{Command}
use Rattle.sqlite.proofs.Callers.{one_step}
use Rattle.site_tables.specs.Commands.{row_terms, rows_terms, width_of, inserts_rows}
use Rattle.site_tables.specs.Causes.{IsAlone}
use Rattle.site_tables.specs.Inserting.{Inserts}
use Rattle.site_tables.specs.TableRows.{visible}
use Rattle.site_tables.specs.Tables.{site_schema}
use Rattle.site_tables.proofs.Applied.{has_inserted, keeps_others}
use Rattle.site_tables.proofs.Causes.{Says}

-- nothing is computed as rows are inserted
pub record IsSimple (schema : Schema) (at : ℕ) (table : Table) : Type 0 where
  pub listed : slice_get schema.tables at ≡ Some table
  pub uncounted : table.is_counted ≡ false
  pub unstamped : table.stamps.terms ≡ []
  pub adds : (news : List Row) → works schema Enforced 0 table.tree [] news ≡ []
  pub removes : (gone : List Row) → works schema Enforced 0 table.tree gone [] ≡ []

-- a part that gave a value did not stop on the way
pub went : {B E R : Type 0} {b : B} {Stops : E → Type 0} → ((stop : E) × Stops stop × (Ok b ≡ Err stop)) ⊎ R → R
went (inl stopped) = absurd (let e = stopped.2 in cc)
went (inr on) = on

pub same_value : {B E : Type 0} {a b : B} → ◌≡◌ {A = Result B E} (Ok a) (Ok b) → a ≡ b
same_value e = cc

concluded : (task : Task) (mode : Mode) (w : Written) (tally : Tally) (after : Database) → Concludes task mode None w (Ok (tally, after)) → after ≡ record { schema = task.schema; trees = w.trees }
concluded task mode w tally after h = ap (λ (p : Tally × Database). p.1) (same_value (went (went h).2).2)

-- what a command on the rows of a table writes, and that it leaves nothing else
pub on_table : (limit : Option ℕ) (mode : Mode) (params : Row) (db after : Database) (schema : Schema) (at : ℕ) (table : Table) (command : Command) (tally : Tally) → db.schema ≡ schema → slice_get schema.tables at ≡ Some table
    → OnTable limit mode params db at (λ task. OnRows task mode None command db.trees) (Ok (tally, after))
    → let task : Task = record { limit = limit; keys = mode.keys; schema = schema; table = table; params = params } in
    (w : Written) × WritesRows task db.trees command (Ok w) × (after ≡ record { schema = schema; trees = w.trees })
on_table limit mode params db after schema at table command tally has listed h =
    let task : Task = record { limit = limit; keys = mode.keys; schema = schema; table = table; params = params } in
    let there = subst (λ s. AtPlace (λ t. OnRows (record task { schema = s; table = t }) mode None command db.trees) (slice_get s.tables at) (Ok (tally, after))) has h in
    let done = went (subst (λ o. AtPlace (λ t. OnRows (record task { table = t }) mode None command db.trees) o (Ok (tally, after))) listed there) in
    (done.0, done.1, concluded task mode done.0 tally after done.2)

pub counts_none : (task : Task) (mid next : Trees) (counter : Option Row) (top : ℤ) → task.table.is_counted ≡ false → Counts task mid counter top (Ok next) → next ≡ mid
counts_none task mid next counter top uncounted h = same_value (rw uncounted at h)

pub chosen : (table : Table) (top : ℤ) → table.is_counted ≡ false → rowids_for table top ≡ Chosen
chosen table top uncounted = rw uncounted refl

-- an insert of rows, for a table that counts nothing
some_rows : (limit : Option ℕ) (schema : Schema) (table : Table) (params : Row) (db : Trees) (terms : List Term) (width : ℕ) (sources : List Row) (w : Written) → table.is_counted ≡ false
    → stamped table params ≡ params → value_rows params width (length terms / width) terms ≡ sources → ((news : List Row) → works schema Enforced 0 table.tree [] news ≡ [])
    → PutsIn (record { limit = limit; keys = Enforced; schema = schema; table = table; params = params }) (Values terms width) db (Ok w)
    → Applies schema Enforced db (edit_of db table [] Chosen 0 sources) w.trees
some_rows limit schema table params db terms width sources w uncounted unstamped are adds h =
    let task : Task = record { limit = limit; keys = Enforced; schema = schema; table = table; params = params } in
    let given = went h in
    let counter = went given.2 in
    let edit = went counter.2 in
    let counted = went edit.2 in
    let rows : given.0 ≡ sources = given.1.1 ∙ ap (λ p. value_rows p width (length terms / width) terms) unstamped ∙ are in
    let same : w.trees ≡ edit.0 = ap (λ (it : Written). it.trees) (same_value counted.2) ∙ counts_none task edit.0 counted.0 counter.0 _ uncounted counted.1 in
    let wrote = subst₂ (λ how all. Writes schema Enforced db (edit_of db table [] how 0 all) (Ok edit.0)) (chosen table _ uncounted) rows edit.1 in
    let one = edit_of db table [] Chosen 0 sources in
    subst (Applies schema Enforced db one) (sym same) (one_step schema Enforced db edit.0 one (adds one.news) wrote)

abbrev pub source_of : Table → Row → Row
source_of table params = eval_all (row_terms table) (params ∷ [])

-- each row is put in under a number of its own, and shown as it was given
pub record IsShown {X : Type 0} (table : Table) (row_of : X → Row) : Type 0 where
  pub shows : (x : X) (tree : List Row) → visible table (with_rowid Chosen tree (cast_row table (source_of table (row_of x)))) ≡ row_of x

-- one row is made of each part of the parameters
abbrev Reads : {X : Type 0} → Table → (X → Row) → ℕ → List X → Type 0
Reads table row_of count xs =
    value_rows (flat_map row_of xs) (width_of table) (length (rows_terms count 0 table) / width_of table) (rows_terms count 0 table) ≡ map (λ x. source_of table (row_of x)) xs

-- and there are so many parameters
abbrev pub Fits : {X : Type 0} → Table → (X → Row) → ℕ → ℕ → List X → Type 0
Fits table row_of count values xs = Reads table row_of count xs × (length (flat_map row_of xs) ≡ values)

-- a text that inserts its parameters as so many rows
pub inserts_all : {X : Type 0} (row_of : X → Row) (count : ℕ) (sql : List ℕ) (at : ℕ) (table : Table) → IsSimple site_schema at table
    → (values : ℕ) → Says site_schema sql (inserts_rows count at table) values
    → ((xs : List X) → length xs ≡ count → Fits table row_of count values xs)
    → IsShown table row_of → Inserts table row_of count sql
inserts_all row_of count sql at table simple values is reads shown = record {
  at = at;
  from = Values (rows_terms count 0 table) (width_of table);
  command = is.command;
  plain = is.plain;
  alone = λ xs many. subst (IsAlone site_schema sql) (sym (reads xs many).1) is.alone;
  adds = λ xs many limit db after tally text has h.
      let terms = rows_terms count 0 table in
      let params = flat_map row_of xs in
      let sources = map (λ x. source_of table (row_of x)) xs in
      let ran = on_table limit (record { keys = Enforced; in_doubt = false; may_wait = false }) params db after site_schema at table (Insert at (Values terms (width_of table))) tally has simple.listed h in
      let applied = some_rows limit site_schema table params db.trees terms (width_of table) sources ran.0 simple.uncounted (rw (simple.unstamped, append-nil params) refl) (reads xs many).0 simple.adds ran.1 in
      let trees : after.trees ≡ ran.0.trees = ap (λ (d : Database). d.trees) ran.2 in
      let done = subst (Applies site_schema Enforced db.trees (edit_of db.trees table [] Chosen 0 sources)) (sym trees) applied in
      record {
        schema = ap (λ (d : Database). d.schema) ran.2 ∙ sym has;
        rows = λ rows there. has_inserted table (λ x. source_of table (row_of x)) row_of shown.shows site_schema xs db.trees after.trees rows done there;
        others = rw has (keeps_others site_schema db.trees after.trees _ done);
      };
}

-- ---- lists of one element and of eight

pub of_one : {X : Type 0} (P : List X → Type 0) → ((x : X) → P (x ∷ [])) → (xs : List X) → length xs ≡ 1 → P xs
of_one P holds (x ∷ []) many = holds x
of_one P holds [] many = absurd (omega (arith, many))
of_one P holds (x ∷ y ∷ xs) many = absurd (omega (arith, many))

pub of_more : {X : Type 0} (n : ℕ) (P : List X → Type 0) → ((x : X) (xs : List X) → length xs ≡ n → P (x ∷ xs)) → (xs : List X) → length xs ≡ n + 1 → P xs
of_more n P holds (x ∷ xs) many = holds x xs (omega (arith, many))
of_more n P holds [] many = absurd (omega (arith, many))

pub of_eight : {X : Type 0} (P : List X → Type 0) → ((a b c d e f g h : X) → P (a ∷ b ∷ c ∷ d ∷ e ∷ f ∷ g ∷ h ∷ [])) → (xs : List X) → length xs ≡ 8 → P xs
of_eight P holds =
    of_more 7 P (λ a. of_more 6 (λ xs. P (a ∷ xs)) (λ b. of_more 5 (λ xs. P (a ∷ b ∷ xs)) (λ c. of_more 4 (λ xs. P (a ∷ b ∷ c ∷ xs)) (λ d. of_more 3 (λ xs. P (a ∷ b ∷ c ∷ d ∷ xs))
    (λ e. of_more 2 (λ xs. P (a ∷ b ∷ c ∷ d ∷ e ∷ xs)) (λ f. of_more 1 (λ xs. P (a ∷ b ∷ c ∷ d ∷ e ∷ f ∷ xs)) (λ g. of_one (λ xs. P (a ∷ b ∷ c ∷ d ∷ e ∷ f ∷ g ∷ xs)) (λ h. holds a b c d e f g h))))))))
