-- The table `recall`: what its texts mean, and what it makes of its rows.
use Rattle.std.proofs.Common.{◌≡◌, ℕ, ℤ, List, [], ◌∷◌, Result, refl, sym, true≢false}
use Rattle.std.specs.Prelude.{codes}
use Rattle.sqlite.specs.declared.error.Error.{Error}
use Rattle.sqlite.specs.declared.types.Value.TheVariants.{Null, Int, Text}
use Rattle.sqlite.specs.Order.{Row}
use Rattle.sqlite.specs.State.{State}
use Rattle.sqlite.specs.Listing.{understood}
use Rattle.sqlite_tied.specs.Compute.{everything}
use Rattle.sqlite.specs.Collation.TheVariants.{Binary}
use Rattle.sqlite_schema.specs.Rules.{equal}
use Rattle.sqlite_rules.specs.Cast.{cast_row}
use Rattle.sqlite_rules.specs.Edit.{with_rowid}
use Rattle.sqlite_rules.specs.declared.error.Rowids.TheVariants.{Chosen}
use Rattle.sqlite_value.specs.Keys.{first_key}
use Rattle.sqlite_trees.specs.Tree.{rowid}
use Rattle.site_rows.specs.declared.rows.RecallRow.{RecallRow}
use Rattle.site_rows.specs.declared.tables.Table.TheVariants.{Recall}
use Rattle.site_rows.specs.declared.tables.Version.{Version}
use Rattle.site_rows.specs.declared.tables.Version.TheVariants.{First, Second}
use Rattle.site_tables.specs.Commands.{inserts_rows, upserts_row}
use Rattle.site_tables.specs.Inserting.{Inserts}
use Rattle.site_tables.specs.Made.{IsMade}
use Rattle.site_tables.specs.Reads.{Selects}
use Rattle.site_tables.specs.TableRows.{Writes, puts, visible}
use Rattle.site_tables.specs.Tables.{Has, declared, earlier, made, schema_of, site_schema, recall}
use Rattle.site_tables.specs.Values.{recall_values}
use Rattle.site_tables.proofs.Causes.{Says}
use Rattle.site_tables.proofs.Inserted.{IsShown, IsSimple, Fits, inserts_all, of_one, source_of}
use Rattle.site_tables.proofs.Meanings.{only_third, sums_nothing}
use Rattle.site_tables.proofs.Steps.{Ran, writes_by}
use Rattle.site_tables.proofs.Tables.{alone, and_true, cast_int, cast_null, quiet, simple_at}
use Rattle.site_tables.proofs.Upserted.{IsNumbered, upserts_one}

-- ---- its texts

abbrev create_text : List ℕ
create_text = codes "CREATE TABLE recall (number INTEGER PRIMARY KEY, root TEXT NOT NULL, ended INTEGER NOT NULL CHECK (ended IN (0, 1))) STRICT"

abbrev select_text : List ℕ
select_text = codes "SELECT number, root, ended FROM recall ORDER BY number"

abbrev insert_text : List ℕ
insert_text = codes "INSERT INTO recall (number, root, ended) VALUES (?1, ?2, ?3)"

abbrev upsert_text : List ℕ
upsert_text = codes "INSERT INTO recall (number, root, ended) VALUES (?1, ?2, ?3) ON CONFLICT (number) DO UPDATE SET root = excluded.root, ended = excluded.ended"

pub is_made : IsMade create_text (schema_of (earlier Recall made)) (record (declared Recall) { tree = 0 })
unfolding understood everything
is_made = record { command = refl; plain = (refl, refl); alone = (_, refl, refl, refl); whole = refl; defined = refl; counts = refl }

pub selects : (v : Version) → Has v Recall → Selects v (declared Recall) select_text
unfolding understood everything
selects First there = record { command = refl; plain = (refl, refl); alone = (_, refl, refl, refl); listing = refl; accepted = λ limit trees e. only_third true≢false (sums_nothing recall trees); keyed = λ _. refl }
selects Second there = record { command = refl; plain = (refl, refl); alone = (_, refl, refl, refl); listing = refl; accepted = λ limit trees e. only_third true≢false (sums_nothing recall trees); keyed = λ _. refl }

insert_is : Says site_schema insert_text (inserts_rows 1 9 recall) 3
unfolding understood everything
insert_is = record { command = refl; plain = (refl, refl); alone = (_, refl, refl, refl); writes = refl }

-- ---- what the table makes of its rows

simple : IsSimple site_schema 9 recall
simple = simple_at 9 recall refl refl refl

shows : (a : ℤ) (b : List ℕ) (c : ℤ) (tree : List Row) → let row = Int a ∷ Text b ∷ Int c ∷ [] in visible recall (with_rowid Chosen tree (cast_row recall (source_of recall row))) ≡ row
shows a b c tree = rw (cast_int a, cast_int c) refl

shown : IsShown recall recall_values
shown = record { shows = λ r. shows r.number r.root r.ended }

pub inserts : Inserts (declared Recall) recall_values 1 insert_text
inserts = inserts_all recall_values 1 insert_text 9 recall simple 3 insert_is (of_one (Fits recall recall_values 1 3) (λ _. (refl, refl))) shown

upsert_is : Says site_schema upsert_text (upserts_row 9 recall) 3
unfolding understood everything
upsert_is = record { command = refl; plain = (refl, refl); alone = (_, refl, refl, refl); writes = refl }

numbered : (a : ℤ) (b : List ℕ) (c : ℤ) → IsNumbered site_schema recall (Int a ∷ Text b ∷ Int c ∷ []) (Int a ∷ Null ∷ Text b ∷ Int c ∷ []) a
unfolding first_key
numbered a b c = record {
  quiet = quiet 15;
  stored = λ tree. rw (cast_int a, cast_int c, cast_null) refl;
  shows = rw (cast_int a, cast_int c) refl;
  key = refl;
  clash = λ r. alone (equal Binary (rowid r) (Int a));
  reads = λ r. and_true (equal Binary (rowid r) (Int a));
  finds = λ r. sym (and_true (equal Binary (rowid r) (Int a)));
  makes = λ r is. rw (is, cast_int a, cast_int c) refl;
  names = λ _. refl;
}

pub upserts : (row : RecallRow) {old new : State} {r : Result ℕ Error} → Ran upsert_text (recall_values row) old new r → Writes recall (puts recall (recall_values row)) old new r
upserts row {old} {new} {r} ran =
    writes_by recall (puts recall (recall_values row)) upsert_text (recall_values row) (upserts_row 9 recall) upsert_is old new r ran
    (λ count has h. upserts_one upsert_text site_schema 9 recall (recall_values row) _ _ old new count simple (upsert_is.command, upsert_is.plain) refl (numbered _ _ _) has h)

-- ---- no two of the code's rows stand for one

pub one_value : (a b : RecallRow) → recall_values a ≡ recall_values b → a ≡ b
one_value a b e =
    let number_is : a.number ≡ b.number = cc in
    let root_is : a.root ≡ b.root = cc in
    let ended_is : a.ended ≡ b.ended = cc in
    λ i. record { number = number_is i; root = root_is i; ended = ended_is i }
