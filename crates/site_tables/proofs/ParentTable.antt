-- The table `parent`: what its texts mean, and what it makes of its rows.
use Rattle.std.proofs.Common.{◌≡◌, ℕ, ℤ, List, [], ◌∷◌, Result, refl, true≢false}
use Rattle.std.specs.Prelude.{codes}
use Rattle.sqlite.specs.declared.error.Error.{Error}
use Rattle.sqlite.specs.declared.types.Value.TheVariants.{Int}
use Rattle.sqlite.specs.Order.{Row}
use Rattle.sqlite.specs.State.{State}
use Rattle.sqlite.specs.Listing.{understood}
use Rattle.sqlite_tied.specs.Compute.{everything}
use Rattle.sqlite_rules.specs.Cast.{cast_row}
use Rattle.sqlite_rules.specs.Edit.{with_rowid}
use Rattle.sqlite_rules.specs.declared.error.Rowids.TheVariants.{Chosen}
use Rattle.site_rows.specs.declared.changes.RecallKey.{RecallKey}
use Rattle.site_rows.specs.declared.rows.ParentRow.{ParentRow}
use Rattle.site_rows.specs.declared.tables.Table.TheVariants.{Parent}
use Rattle.site_rows.specs.declared.tables.Version.{Version}
use Rattle.site_rows.specs.declared.tables.Version.TheVariants.{First, Second}
use Rattle.site_tables.specs.Commands.{deletes_key, inserts_rows}
use Rattle.site_tables.specs.Inserting.{Inserts}
use Rattle.site_tables.specs.Made.{IsMade}
use Rattle.site_tables.specs.Reads.{Selects}
use Rattle.site_tables.specs.TableRows.{Writes, visible, without_key}
use Rattle.site_tables.specs.Tables.{Has, declared, earlier, made, schema_of, site_schema, parent}
use Rattle.site_tables.specs.Values.{recall_key, parent_values}
use Rattle.site_tables.proofs.Causes.{Says}
use Rattle.site_tables.proofs.Inserted.{IsShown, IsSimple, Fits, inserts_all, of_one, source_of}
use Rattle.site_tables.proofs.Meanings.{only_third, sums_nothing}
use Rattle.site_tables.proofs.Steps.{Ran, deletes_of_key}
use Rattle.site_tables.proofs.Tables.{cast_int, cast_null, simple_at}

-- ---- its texts

abbrev create_text : List ℕ
create_text = codes "CREATE TABLE parent (recall_site INTEGER NOT NULL, recall_no INTEGER NOT NULL, sender INTEGER NOT NULL, number INTEGER NOT NULL, PRIMARY KEY (recall_site, recall_no)) STRICT"

abbrev select_text : List ℕ
select_text = codes "SELECT recall_site, recall_no, sender, number FROM parent ORDER BY recall_site, recall_no"

abbrev insert_text : List ℕ
insert_text = codes "INSERT INTO parent (recall_site, recall_no, sender, number) VALUES (?1, ?2, ?3, ?4)"

abbrev delete_text : List ℕ
delete_text = codes "DELETE FROM parent WHERE recall_site = ?1 AND recall_no = ?2"

pub is_made : IsMade create_text (schema_of (earlier Parent made)) (record (declared Parent) { tree = 0 })
unfolding understood everything
is_made = record { command = refl; plain = (refl, refl); alone = (_, refl, refl, refl); whole = refl; defined = refl; counts = refl }

pub selects : (v : Version) → Has v Parent → Selects v (declared Parent) select_text
unfolding understood everything
selects First there = record { command = refl; plain = (refl, refl); alone = (_, refl, refl, refl); listing = refl; accepted = λ limit trees e. only_third true≢false (sums_nothing parent trees); keyed = λ _. refl }
selects Second there = record { command = refl; plain = (refl, refl); alone = (_, refl, refl, refl); listing = refl; accepted = λ limit trees e. only_third true≢false (sums_nothing parent trees); keyed = λ _. refl }

insert_is : Says site_schema insert_text (inserts_rows 1 8 parent) 4
unfolding understood everything
insert_is = record { command = refl; plain = (refl, refl); alone = (_, refl, refl, refl); writes = refl }

-- ---- what the table makes of its rows

simple : IsSimple site_schema 8 parent
simple = simple_at 8 parent refl refl refl

shows : (a : ℤ) (b : ℤ) (c : ℤ) (d : ℤ) (tree : List Row) → let row = Int a ∷ Int b ∷ Int c ∷ Int d ∷ [] in visible parent (with_rowid Chosen tree (cast_row parent (source_of parent row))) ≡ row
shows a b c d tree = rw (cast_int a, cast_int b, cast_int c, cast_int d, cast_null) refl

shown : IsShown parent parent_values
shown = record { shows = λ r. shows r.recall_site r.recall_no r.sender r.number }

pub inserts : Inserts (declared Parent) parent_values 1 insert_text
inserts = inserts_all parent_values 1 insert_text 8 parent simple 4 insert_is (of_one (Fits parent parent_values 1 4) (λ _. (refl, refl))) shown

delete_is : Says site_schema delete_text (deletes_key 8 parent) 2
unfolding understood everything
delete_is = record { command = refl; plain = (refl, refl); alone = (_, refl, refl, refl); writes = refl }

pub deletes : (key : RecallKey) {old new : State} {r : Result ℕ Error} → Ran delete_text (recall_key key) old new r → Writes parent (without_key parent (recall_key key)) old new r
deletes key ran = deletes_of_key 8 parent simple _ (recall_key key) delete_is (λ _. refl) ran

-- ---- no two of the code's rows stand for one

pub one_value : (a b : ParentRow) → parent_values a ≡ parent_values b → a ≡ b
one_value a b e =
    let recall_site_is : a.recall_site ≡ b.recall_site = cc in
    let recall_no_is : a.recall_no ≡ b.recall_no = cc in
    let sender_is : a.sender ≡ b.sender = cc in
    let number_is : a.number ≡ b.number = cc in
    λ i. record { recall_site = recall_site_is i; recall_no = recall_no_is i; sender = sender_is i; number = number_is i }
