-- The table `quarantine`: what its texts mean, and what it makes of its rows.
use Rattle.std.proofs.Common.{◌≡◌, ℕ, ℤ, List, [], ◌∷◌, refl, true≢false}
use Rattle.std.specs.Prelude.{codes}
use Rattle.sqlite.specs.declared.types.Value.TheVariants.{Int, Text}
use Rattle.sqlite.specs.Order.{Row}
use Rattle.sqlite.specs.Listing.{understood}
use Rattle.sqlite_tied.specs.Compute.{everything}
use Rattle.sqlite_rules.specs.Cast.{cast_row}
use Rattle.sqlite_rules.specs.Edit.{with_rowid}
use Rattle.sqlite_rules.specs.declared.error.Rowids.TheVariants.{Chosen}
use Rattle.site_rows.specs.declared.rows.QuarantineRow.{QuarantineRow}
use Rattle.site_rows.specs.declared.tables.Table.TheVariants.{Quarantine}
use Rattle.site_rows.specs.declared.tables.Version.{Version}
use Rattle.site_rows.specs.declared.tables.Version.TheVariants.{First, Second}
use Rattle.site_tables.specs.Commands.{inserts_rows}
use Rattle.site_tables.specs.Inserting.{Inserts}
use Rattle.site_tables.specs.Made.{IsMade}
use Rattle.site_tables.specs.Reads.{Selects}
use Rattle.site_tables.specs.TableRows.{visible}
use Rattle.site_tables.specs.Tables.{Has, declared, earlier, made, schema_of, site_schema, quarantine}
use Rattle.site_tables.specs.Values.{quarantine_values}
use Rattle.site_tables.proofs.Causes.{Says}
use Rattle.site_tables.proofs.Inserted.{IsShown, IsSimple, Fits, inserts_all, of_eight, of_one, source_of}
use Rattle.site_tables.proofs.Meanings.{only_third, sums_nothing}
use Rattle.site_tables.proofs.Tables.{cast_int, cast_null, simple_at}

-- ---- its texts

abbrev create_text : List ℕ
create_text = codes "CREATE TABLE quarantine (recall_site INTEGER NOT NULL, recall_no INTEGER NOT NULL, item TEXT NOT NULL, PRIMARY KEY (recall_site, recall_no, item)) STRICT"

abbrev select_text : List ℕ
select_text = codes "SELECT recall_site, recall_no, item FROM quarantine ORDER BY recall_site, recall_no, item"

abbrev insert_text : List ℕ
insert_text = codes "INSERT INTO quarantine (recall_site, recall_no, item) VALUES (?1, ?2, ?3)"

abbrev insert_eight_text : List ℕ
insert_eight_text = codes "INSERT INTO quarantine (recall_site, recall_no, item) VALUES (?1, ?2, ?3), (?4, ?5, ?6), (?7, ?8, ?9), (?10, ?11, ?12), (?13, ?14, ?15), (?16, ?17, ?18), (?19, ?20, ?21), (?22, ?23, ?24)"

pub is_made : IsMade create_text (schema_of (earlier Quarantine made)) (record (declared Quarantine) { tree = 0 })
unfolding understood everything
is_made = record { command = refl; plain = (refl, refl); alone = (_, refl, refl, refl); whole = refl; defined = refl; counts = refl }

pub selects : (v : Version) → Has v Quarantine → Selects v (declared Quarantine) select_text
unfolding understood everything
selects First there = record { command = refl; plain = (refl, refl); alone = (_, refl, refl, refl); listing = refl; accepted = λ limit trees e. only_third true≢false (sums_nothing quarantine trees); keyed = λ _. refl }
selects Second there = record { command = refl; plain = (refl, refl); alone = (_, refl, refl, refl); listing = refl; accepted = λ limit trees e. only_third true≢false (sums_nothing quarantine trees); keyed = λ _. refl }

insert_is : Says site_schema insert_text (inserts_rows 1 5 quarantine) 3
unfolding understood everything
insert_is = record { command = refl; plain = (refl, refl); alone = (_, refl, refl, refl); writes = refl }

insert_eight_is : Says site_schema insert_eight_text (inserts_rows 8 5 quarantine) 24
unfolding understood everything
insert_eight_is = record { command = refl; plain = (refl, refl); alone = (_, refl, refl, refl); writes = refl }

-- ---- what the table makes of its rows

simple : IsSimple site_schema 5 quarantine
simple = simple_at 5 quarantine refl refl refl

shows : (a : ℤ) (b : ℤ) (c : List ℕ) (tree : List Row) → let row = Int a ∷ Int b ∷ Text c ∷ [] in visible quarantine (with_rowid Chosen tree (cast_row quarantine (source_of quarantine row))) ≡ row
shows a b c tree = rw (cast_int a, cast_int b, cast_null) refl

shown : IsShown quarantine quarantine_values
shown = record { shows = λ r. shows r.recall_site r.recall_no r.item }

pub inserts : Inserts (declared Quarantine) quarantine_values 1 insert_text
inserts = inserts_all quarantine_values 1 insert_text 5 quarantine simple 3 insert_is (of_one (Fits quarantine quarantine_values 1 3) (λ _. (refl, refl))) shown

pub inserts_eight : Inserts (declared Quarantine) quarantine_values 8 insert_eight_text
inserts_eight = inserts_all quarantine_values 8 insert_eight_text 5 quarantine simple 24 insert_eight_is (of_eight (Fits quarantine quarantine_values 8 24) (λ _ _ _ _ _ _ _ _. (refl, refl))) shown

-- ---- no two of the code's rows stand for one

pub one_value : (a b : QuarantineRow) → quarantine_values a ≡ quarantine_values b → a ≡ b
one_value a b e =
    let recall_site_is : a.recall_site ≡ b.recall_site = cc in
    let recall_no_is : a.recall_no ≡ b.recall_no = cc in
    let item_is : a.item ≡ b.item = cc in
    λ i. record { recall_site = recall_site_is i; recall_no = recall_no_is i; item = item_is i }
