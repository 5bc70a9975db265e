-- The table `part`: what its texts mean, and what it makes of its rows.
use Rattle.std.proofs.Common.{◌≡◌, ℕ, ℤ, List, [], ◌∷◌, refl, true≢false}
use Rattle.std.specs.Prelude.{codes}
use Rattle.sqlite.specs.declared.types.Value.TheVariants.{Int, Text}
use Rattle.sqlite.specs.Order.{Row}
use Rattle.sqlite.specs.Listing.{understood}
use Rattle.sqlite_tied.specs.Compute.{everything}
use Rattle.sqlite_rules.specs.Cast.{cast_row}
use Rattle.sqlite_rules.specs.Edit.{with_rowid}
use Rattle.sqlite_rules.specs.declared.error.Rowids.TheVariants.{Chosen}
use Rattle.site_rows.specs.declared.rows.PartRow.{PartRow}
use Rattle.site_rows.specs.declared.tables.Table.TheVariants.{Part}
use Rattle.site_rows.specs.declared.tables.Version.{Version}
use Rattle.site_rows.specs.declared.tables.Version.TheVariants.{First, Second}
use Rattle.site_tables.specs.Commands.{inserts_rows}
use Rattle.site_tables.specs.Inserting.{Inserts}
use Rattle.site_tables.specs.Made.{IsMade}
use Rattle.site_tables.specs.Reads.{Selects}
use Rattle.site_tables.specs.TableRows.{visible}
use Rattle.site_tables.specs.Tables.{Has, declared, earlier, made, schema_of, site_schema, part}
use Rattle.site_tables.specs.Values.{part_values}
use Rattle.site_tables.proofs.Causes.{Says}
use Rattle.site_tables.proofs.Inserted.{IsShown, IsSimple, Fits, inserts_all, of_eight, of_one, source_of}
use Rattle.site_tables.proofs.Meanings.{only_third, sums_nothing}
use Rattle.site_tables.proofs.Tables.{cast_int, cast_null, simple_at}

-- ---- its texts

abbrev create_text : List ℕ
create_text = codes "CREATE TABLE part (event INTEGER NOT NULL REFERENCES event(no), role INTEGER NOT NULL, place INTEGER NOT NULL, text TEXT NOT NULL, PRIMARY KEY (event, role, place)) STRICT"

abbrev select_text : List ℕ
select_text = codes "SELECT event, role, place, text FROM part ORDER BY event, role, place"

abbrev insert_text : List ℕ
insert_text = codes "INSERT INTO part (event, role, place, text) VALUES (?1, ?2, ?3, ?4)"

abbrev insert_eight_text : List ℕ
insert_eight_text = codes "INSERT INTO part (event, role, place, text) VALUES (?1, ?2, ?3, ?4), (?5, ?6, ?7, ?8), (?9, ?10, ?11, ?12), (?13, ?14, ?15, ?16), (?17, ?18, ?19, ?20), (?21, ?22, ?23, ?24), (?25, ?26, ?27, ?28), (?29, ?30, ?31, ?32)"

pub is_made : IsMade create_text (schema_of (earlier Part made)) (record (declared Part) { tree = 0 })
unfolding understood everything
is_made = record { command = refl; plain = (refl, refl); alone = (_, refl, refl, refl); whole = refl; defined = refl; counts = refl }

pub selects : (v : Version) → Has v Part → Selects v (declared Part) select_text
unfolding understood everything
selects First there = record { command = refl; plain = (refl, refl); alone = (_, refl, refl, refl); listing = refl; accepted = λ limit trees e. only_third true≢false (sums_nothing part trees); keyed = λ _. refl }
selects Second there = record { command = refl; plain = (refl, refl); alone = (_, refl, refl, refl); listing = refl; accepted = λ limit trees e. only_third true≢false (sums_nothing part trees); keyed = λ _. refl }

insert_is : Says site_schema insert_text (inserts_rows 1 4 part) 4
unfolding understood everything
insert_is = record { command = refl; plain = (refl, refl); alone = (_, refl, refl, refl); writes = refl }

insert_eight_is : Says site_schema insert_eight_text (inserts_rows 8 4 part) 32
unfolding understood everything
insert_eight_is = record { command = refl; plain = (refl, refl); alone = (_, refl, refl, refl); writes = refl }

-- ---- what the table makes of its rows

simple : IsSimple site_schema 4 part
simple = simple_at 4 part refl refl refl

shows : (a : ℤ) (b : ℤ) (c : ℤ) (d : List ℕ) (tree : List Row) → let row = Int a ∷ Int b ∷ Int c ∷ Text d ∷ [] in visible part (with_rowid Chosen tree (cast_row part (source_of part row))) ≡ row
shows a b c d tree = rw (cast_int a, cast_int b, cast_int c, cast_null) refl

shown : IsShown part part_values
shown = record { shows = λ r. shows r.event r.role r.place r.text }

pub inserts : Inserts (declared Part) part_values 1 insert_text
inserts = inserts_all part_values 1 insert_text 4 part simple 4 insert_is (of_one (Fits part part_values 1 4) (λ _. (refl, refl))) shown

pub inserts_eight : Inserts (declared Part) part_values 8 insert_eight_text
inserts_eight = inserts_all part_values 8 insert_eight_text 4 part simple 32 insert_eight_is (of_eight (Fits part part_values 8 32) (λ _ _ _ _ _ _ _ _. (refl, refl))) shown

-- ---- no two of the code's rows stand for one

pub one_value : (a b : PartRow) → part_values a ≡ part_values b → a ≡ b
one_value a b e =
    let event_is : a.event ≡ b.event = cc in
    let role_is : a.role ≡ b.role = cc in
    let place_is : a.place ≡ b.place = cc in
    let text_is : a.text ≡ b.text = cc in
    λ i. record { event = event_is i; role = role_is i; place = place_is i; text = text_is i }
