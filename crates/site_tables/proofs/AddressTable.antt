-- The table `address`: what its texts mean, and what it makes of its rows.
use Rattle.std.proofs.Common.{◌≡◌, ℕ, ℤ, List, [], ◌∷◌, refl, true≢false}
use Rattle.std.specs.Prelude.{codes}
use Rattle.sqlite.specs.declared.types.Value.TheVariants.{Int, Text}
use Rattle.sqlite.specs.Order.{Row}
use Rattle.sqlite.specs.Listing.{understood}
use Rattle.sqlite_tied.specs.Compute.{everything}
use Rattle.sqlite_rules.specs.Cast.{cast_row}
use Rattle.sqlite_rules.specs.Edit.{with_rowid}
use Rattle.sqlite_rules.specs.declared.error.Rowids.TheVariants.{Chosen}
use Rattle.site_rows.specs.declared.rows.AddressRow.{AddressRow}
use Rattle.site_rows.specs.declared.tables.Table.TheVariants.{Address}
use Rattle.site_rows.specs.declared.tables.Version.{Version}
use Rattle.site_rows.specs.declared.tables.Version.TheVariants.{First, Second}
use Rattle.site_tables.specs.Commands.{inserts_rows}
use Rattle.site_tables.specs.Inserting.{Inserts}
use Rattle.site_tables.specs.Made.{IsMade}
use Rattle.site_tables.specs.Reads.{Selects}
use Rattle.site_tables.specs.TableRows.{visible}
use Rattle.site_tables.specs.Tables.{Has, declared, earlier, made, schema_of, site_schema, address}
use Rattle.site_tables.specs.Values.{address_values}
use Rattle.site_tables.proofs.Causes.{Says}
use Rattle.site_tables.proofs.Inserted.{IsShown, IsSimple, Fits, inserts_all, of_one, source_of}
use Rattle.site_tables.proofs.Meanings.{only_third, sums_nothing}
use Rattle.site_tables.proofs.Tables.{cast_int, cast_null, simple_at}

-- ---- its texts

abbrev create_text : List ℕ
create_text = codes "CREATE TABLE address (text TEXT PRIMARY KEY NOT NULL, site INTEGER NOT NULL REFERENCES site(no), place INTEGER NOT NULL) STRICT"

abbrev select_text : List ℕ
select_text = codes "SELECT text, site, place FROM address ORDER BY text"

abbrev insert_text : List ℕ
insert_text = codes "INSERT INTO address (text, site, place) VALUES (?1, ?2, ?3)"

pub is_made : IsMade create_text (schema_of (earlier Address made)) (record (declared Address) { tree = 0 })
unfolding understood everything
is_made = record { command = refl; plain = (refl, refl); alone = (_, refl, refl, refl); whole = refl; defined = refl; counts = refl }

pub selects : (v : Version) → Has v Address → Selects v (declared Address) select_text
unfolding understood everything
selects First there = record { command = refl; plain = (refl, refl); alone = (_, refl, refl, refl); listing = refl; accepted = λ limit trees e. only_third true≢false (sums_nothing address trees); keyed = λ _. refl }
selects Second there = record { command = refl; plain = (refl, refl); alone = (_, refl, refl, refl); listing = refl; accepted = λ limit trees e. only_third true≢false (sums_nothing address trees); keyed = λ _. refl }

insert_is : Says site_schema insert_text (inserts_rows 1 2 address) 3
unfolding understood everything
insert_is = record { command = refl; plain = (refl, refl); alone = (_, refl, refl, refl); writes = refl }

-- ---- what the table makes of its rows

simple : IsSimple site_schema 2 address
simple = simple_at 2 address refl refl refl

shows : (a : List ℕ) (b : ℤ) (c : ℤ) (tree : List Row) → let row = Text a ∷ Int b ∷ Int c ∷ [] in visible address (with_rowid Chosen tree (cast_row address (source_of address row))) ≡ row
shows a b c tree = rw (cast_int b, cast_int c, cast_null) refl

shown : IsShown address address_values
shown = record { shows = λ r. shows r.text r.site r.place }

pub inserts : Inserts (declared Address) address_values 1 insert_text
inserts = inserts_all address_values 1 insert_text 2 address simple 3 insert_is (of_one (Fits address address_values 1 3) (λ _. (refl, refl))) shown

-- ---- no two of the code's rows stand for one

pub one_value : (a b : AddressRow) → address_values a ≡ address_values b → a ≡ b
one_value a b e =
    let text_is : a.text ≡ b.text = cc in
    let site_is : a.site ≡ b.site = cc in
    let place_is : a.place ≡ b.place = cc in
    λ i. record { text = text_is i; site = site_is i; place = place_is i }
