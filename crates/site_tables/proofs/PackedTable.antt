-- The table `packed`: what its texts mean, and what it makes of its rows.
use Rattle.std.proofs.Common.{◌≡◌, ℕ, ℤ, List, [], ◌∷◌, refl, true≢false}
use Rattle.std.specs.Prelude.{codes}
use Rattle.sqlite.specs.declared.types.Value.TheVariants.{Int, Text}
use Rattle.sqlite.specs.Order.{Row}
use Rattle.sqlite.specs.Listing.{understood}
use Rattle.sqlite_tied.specs.Compute.{everything}
use Rattle.sqlite_rules.specs.Cast.{cast_row}
use Rattle.sqlite_rules.specs.Edit.{with_rowid}
use Rattle.sqlite_rules.specs.declared.error.Rowids.TheVariants.{Chosen}
use Rattle.site_rows.specs.declared.rows.PackedRow.{PackedRow}
use Rattle.site_rows.specs.declared.tables.Table.TheVariants.{Packed}
use Rattle.site_rows.specs.declared.tables.Version.{Version}
use Rattle.site_rows.specs.declared.tables.Version.TheVariants.{First, Second}
use Rattle.site_tables.specs.Commands.{inserts_rows}
use Rattle.site_tables.specs.Inserting.{Inserts}
use Rattle.site_tables.specs.Made.{IsMade}
use Rattle.site_tables.specs.Reads.{Selects}
use Rattle.site_tables.specs.TableRows.{visible}
use Rattle.site_tables.specs.Tables.{Has, declared, earlier, made, schema_of, site_schema, packed}
use Rattle.site_tables.specs.Values.{packed_values}
use Rattle.site_tables.proofs.Causes.{Says}
use Rattle.site_tables.proofs.Inserted.{IsShown, IsSimple, Fits, inserts_all, of_eight, of_one, source_of}
use Rattle.site_tables.proofs.Meanings.{only_third, sums_nothing}
use Rattle.site_tables.proofs.Tables.{cast_int, cast_null, simple_at}

-- ---- its texts

abbrev create_text : List ℕ
create_text = codes "CREATE TABLE packed (event INTEGER NOT NULL REFERENCES event(no), place INTEGER NOT NULL, text TEXT NOT NULL, PRIMARY KEY (event, place)) STRICT"

abbrev select_text : List ℕ
select_text = codes "SELECT event, place, text FROM packed ORDER BY event, place"

abbrev insert_text : List ℕ
insert_text = codes "INSERT INTO packed (event, place, text) VALUES (?1, ?2, ?3)"

abbrev insert_eight_text : List ℕ
insert_eight_text = codes "INSERT INTO packed (event, place, text) VALUES (?1, ?2, ?3), (?4, ?5, ?6), (?7, ?8, ?9), (?10, ?11, ?12), (?13, ?14, ?15), (?16, ?17, ?18), (?19, ?20, ?21), (?22, ?23, ?24)"

pub is_made : IsMade create_text (schema_of (earlier Packed made)) (record (declared Packed) { tree = 0 })
unfolding understood everything
is_made = record { command = refl; plain = (refl, refl); alone = (_, refl, refl, refl); whole = refl; defined = refl; counts = refl }

pub selects : (v : Version) → Has v Packed → Selects v (declared Packed) select_text
unfolding understood everything
selects First there = absurd there
selects Second there = record { command = refl; plain = (refl, refl); alone = (_, refl, refl, refl); listing = refl; accepted = λ limit trees e. only_third true≢false (sums_nothing packed trees); keyed = λ _. refl }

insert_is : Says site_schema insert_text (inserts_rows 1 11 packed) 3
unfolding understood everything
insert_is = record { command = refl; plain = (refl, refl); alone = (_, refl, refl, refl); writes = refl }

insert_eight_is : Says site_schema insert_eight_text (inserts_rows 8 11 packed) 24
unfolding understood everything
insert_eight_is = record { command = refl; plain = (refl, refl); alone = (_, refl, refl, refl); writes = refl }

-- ---- what the table makes of its rows

simple : IsSimple site_schema 11 packed
simple = simple_at 11 packed refl refl refl

shows : (a : ℤ) (b : ℤ) (c : List ℕ) (tree : List Row) → let row = Int a ∷ Int b ∷ Text c ∷ [] in visible packed (with_rowid Chosen tree (cast_row packed (source_of packed row))) ≡ row
shows a b c tree = rw (cast_int a, cast_int b, cast_null) refl

shown : IsShown packed packed_values
shown = record { shows = λ r. shows r.event r.place r.text }

pub inserts : Inserts (declared Packed) packed_values 1 insert_text
inserts = inserts_all packed_values 1 insert_text 11 packed simple 3 insert_is (of_one (Fits packed packed_values 1 3) (λ _. (refl, refl))) shown

pub inserts_eight : Inserts (declared Packed) packed_values 8 insert_eight_text
inserts_eight = inserts_all packed_values 8 insert_eight_text 11 packed simple 24 insert_eight_is (of_eight (Fits packed packed_values 8 24) (λ _ _ _ _ _ _ _ _. (refl, refl))) shown

-- ---- no two of the code's rows stand for one

pub one_value : (a b : PackedRow) → packed_values a ≡ packed_values b → a ≡ b
one_value a b e =
    let event_is : a.event ≡ b.event = cc in
    let place_is : a.place ≡ b.place = cc in
    let text_is : a.text ≡ b.text = cc in
    λ i. record { event = event_is i; place = place_is i; text = text_is i }
