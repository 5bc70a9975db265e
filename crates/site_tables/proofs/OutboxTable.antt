-- The table `outbox`: what its texts mean, and what it makes of its rows.
use Rattle.std.proofs.Common.{◌≡◌, ℕ, ℤ, List, [], ◌∷◌, Result, refl, sym, true≢false}
use Rattle.std.specs.Prelude.{codes}
use Rattle.sqlite.specs.declared.error.Error.{Error}
use Rattle.sqlite.specs.declared.types.Value.TheVariants.{Null, Int, Text}
use Rattle.sqlite.specs.Order.{Row}
use Rattle.sqlite.specs.State.{State}
use Rattle.sqlite.specs.Listing.{understood}
use Rattle.sqlite_tied.specs.Compute.{everything}
use Rattle.sqlite.specs.Collation.TheVariants.{Binary}
use Rattle.sqlite_schema.specs.Rules.{equal}
use Rattle.sqlite_rules.specs.Cast.{cast_row}
use Rattle.sqlite_rules.specs.Edit.{with_rowid}
use Rattle.sqlite_rules.specs.declared.error.Rowids.TheVariants.{Chosen}
use Rattle.sqlite_value.specs.Keys.{first_key}
use Rattle.sqlite_trees.specs.Tree.{rowid}
use Rattle.site_rows.specs.declared.rows.OutboxRow.{OutboxRow}
use Rattle.site_rows.specs.declared.tables.Table.TheVariants.{Outbox}
use Rattle.site_rows.specs.declared.tables.Version.{Version}
use Rattle.site_rows.specs.declared.tables.Version.TheVariants.{First, Second}
use Rattle.site_tables.specs.Commands.{deletes_key, inserts_rows, upserts_row}
use Rattle.site_tables.specs.Inserting.{Inserts}
use Rattle.site_tables.specs.Made.{IsMade}
use Rattle.site_tables.specs.Reads.{Selects}
use Rattle.site_tables.specs.TableRows.{Writes, puts, visible, without_key}
use Rattle.site_tables.specs.Tables.{Has, declared, earlier, made, schema_of, site_schema, outbox}
use Rattle.site_tables.specs.Values.{outbox_values}
use Rattle.site_tables.proofs.Causes.{Says}
use Rattle.site_tables.proofs.Inserted.{IsShown, IsSimple, Fits, inserts_all, of_one, source_of}
use Rattle.site_tables.proofs.Meanings.{only_third, sums_nothing}
use Rattle.site_tables.proofs.Steps.{Ran, deletes_of_key, writes_by}
use Rattle.site_tables.proofs.Tables.{alone, and_true, cast_int, cast_null, quiet, simple_at}
use Rattle.site_tables.proofs.Upserted.{IsNumbered, upserts_one}

-- ---- its texts

abbrev create_text : List ℕ
create_text = codes "CREATE TABLE outbox (number INTEGER PRIMARY KEY, dest INTEGER NOT NULL, recall_site INTEGER NOT NULL, recall_no INTEGER NOT NULL, item TEXT NOT NULL) STRICT"

abbrev select_text : List ℕ
select_text = codes "SELECT number, dest, recall_site, recall_no, item FROM outbox ORDER BY number"

abbrev insert_text : List ℕ
insert_text = codes "INSERT INTO outbox (number, dest, recall_site, recall_no, item) VALUES (?1, ?2, ?3, ?4, ?5)"

abbrev upsert_text : List ℕ
upsert_text = codes "INSERT INTO outbox (number, dest, recall_site, recall_no, item) VALUES (?1, ?2, ?3, ?4, ?5) ON CONFLICT (number) DO UPDATE SET dest = excluded.dest, recall_site = excluded.recall_site, recall_no = excluded.recall_no, item = excluded.item"

abbrev delete_text : List ℕ
delete_text = codes "DELETE FROM outbox WHERE number = ?1"

pub is_made : IsMade create_text (schema_of (earlier Outbox made)) (record (declared Outbox) { tree = 0 })
unfolding understood everything
is_made = record { command = refl; plain = (refl, refl); alone = (_, refl, refl, refl); whole = refl; defined = refl; counts = refl }

pub selects : (v : Version) → Has v Outbox → Selects v (declared Outbox) select_text
unfolding understood everything
selects First there = record { command = refl; plain = (refl, refl); alone = (_, refl, refl, refl); listing = refl; accepted = λ limit trees e. only_third true≢false (sums_nothing outbox trees); keyed = λ _. refl }
selects Second there = record { command = refl; plain = (refl, refl); alone = (_, refl, refl, refl); listing = refl; accepted = λ limit trees e. only_third true≢false (sums_nothing outbox trees); keyed = λ _. refl }

insert_is : Says site_schema insert_text (inserts_rows 1 6 outbox) 5
unfolding understood everything
insert_is = record { command = refl; plain = (refl, refl); alone = (_, refl, refl, refl); writes = refl }

-- ---- what the table makes of its rows

simple : IsSimple site_schema 6 outbox
simple = simple_at 6 outbox refl refl refl

shows : (a : ℤ) (b : ℤ) (c : ℤ) (d : ℤ) (e : List ℕ) (tree : List Row) → let row = Int a ∷ Int b ∷ Int c ∷ Int d ∷ Text e ∷ [] in visible outbox (with_rowid Chosen tree (cast_row outbox (source_of outbox row))) ≡ row
shows a b c d e tree = rw (cast_int a, cast_int b, cast_int c, cast_int d) refl

shown : IsShown outbox outbox_values
shown = record { shows = λ r. shows r.number r.dest r.recall_site r.recall_no r.item }

pub inserts : Inserts (declared Outbox) outbox_values 1 insert_text
inserts = inserts_all outbox_values 1 insert_text 6 outbox simple 5 insert_is (of_one (Fits outbox outbox_values 1 5) (λ _. (refl, refl))) shown

upsert_is : Says site_schema upsert_text (upserts_row 6 outbox) 5
unfolding understood everything
upsert_is = record { command = refl; plain = (refl, refl); alone = (_, refl, refl, refl); writes = refl }

numbered : (a : ℤ) (b : ℤ) (c : ℤ) (d : ℤ) (e : List ℕ) → IsNumbered site_schema outbox (Int a ∷ Int b ∷ Int c ∷ Int d ∷ Text e ∷ []) (Int a ∷ Null ∷ Int b ∷ Int c ∷ Int d ∷ Text e ∷ []) a
unfolding first_key
numbered a b c d e = record {
  quiet = quiet 10;
  stored = λ tree. rw (cast_int a, cast_int b, cast_int c, cast_int d, cast_null) refl;
  shows = rw (cast_int a, cast_int b, cast_int c, cast_int d) refl;
  key = refl;
  clash = λ r. alone (equal Binary (rowid r) (Int a));
  reads = λ r. and_true (equal Binary (rowid r) (Int a));
  finds = λ r. sym (and_true (equal Binary (rowid r) (Int a)));
  makes = λ r is. rw (is, cast_int a, cast_int b, cast_int c, cast_int d) refl;
  names = λ _. refl;
}

pub upserts : (row : OutboxRow) {old new : State} {r : Result ℕ Error} → Ran upsert_text (outbox_values row) old new r → Writes outbox (puts outbox (outbox_values row)) old new r
upserts row {old} {new} {r} ran =
    writes_by outbox (puts outbox (outbox_values row)) upsert_text (outbox_values row) (upserts_row 6 outbox) upsert_is old new r ran
    (λ count has h. upserts_one upsert_text site_schema 6 outbox (outbox_values row) _ _ old new count simple (upsert_is.command, upsert_is.plain) refl (numbered _ _ _ _ _) has h)

delete_is : Says site_schema delete_text (deletes_key 6 outbox) 1
unfolding understood everything
delete_is = record { command = refl; plain = (refl, refl); alone = (_, refl, refl, refl); writes = refl }

pub deletes : (number : ℤ) {old new : State} {r : Result ℕ Error} → Ran delete_text (Int number ∷ []) old new r → Writes outbox (without_key outbox (Int number ∷ [])) old new r
deletes number ran = deletes_of_key 6 outbox simple _ (Int number ∷ []) delete_is (λ _. refl) ran

-- ---- no two of the code's rows stand for one

pub one_value : (a b : OutboxRow) → outbox_values a ≡ outbox_values b → a ≡ b
one_value a b e =
    let number_is : a.number ≡ b.number = cc in
    let dest_is : a.dest ≡ b.dest = cc in
    let recall_site_is : a.recall_site ≡ b.recall_site = cc in
    let recall_no_is : a.recall_no ≡ b.recall_no = cc in
    let item_is : a.item ≡ b.item = cc in
    λ i. record { number = number_is i; dest = dest_is i; recall_site = recall_site_is i; recall_no = recall_no_is i; item = item_is i }
