-- The table `site`: what its texts mean, and what it makes of its rows.
use Rattle.std.proofs.Common.{◌≡◌, ℕ, ℤ, List, [], ◌∷◌, refl, true≢false}
use Rattle.std.specs.Prelude.{codes}
use Rattle.sqlite.specs.declared.types.Value.TheVariants.{Int, Text}
use Rattle.sqlite.specs.Order.{Row}
use Rattle.sqlite.specs.Listing.{understood}
use Rattle.sqlite_tied.specs.Compute.{everything}
use Rattle.sqlite_rules.specs.Cast.{cast_row}
use Rattle.sqlite_rules.specs.Edit.{with_rowid}
use Rattle.sqlite_rules.specs.declared.error.Rowids.TheVariants.{Chosen}
use Rattle.site_rows.specs.declared.rows.SiteRow.{SiteRow}
use Rattle.site_rows.specs.declared.tables.Table.TheVariants.{Site}
use Rattle.site_rows.specs.declared.tables.Version.{Version}
use Rattle.site_rows.specs.declared.tables.Version.TheVariants.{First, Second}
use Rattle.site_tables.specs.Commands.{inserts_rows}
use Rattle.site_tables.specs.Inserting.{Inserts}
use Rattle.site_tables.specs.Made.{IsMade}
use Rattle.site_tables.specs.Reads.{Selects}
use Rattle.site_tables.specs.TableRows.{visible}
use Rattle.site_tables.specs.Tables.{Has, declared, earlier, made, schema_of, site_schema, site}
use Rattle.site_tables.specs.Values.{site_values}
use Rattle.site_tables.proofs.Causes.{Says}
use Rattle.site_tables.proofs.Inserted.{IsShown, IsSimple, Fits, inserts_all, of_one, source_of}
use Rattle.site_tables.proofs.Meanings.{only_third, sums_nothing}
use Rattle.site_tables.proofs.Tables.{cast_int, simple_at}

-- ---- its texts

abbrev create_text : List ℕ
create_text = codes "CREATE TABLE site (no INTEGER PRIMARY KEY, name TEXT NOT NULL UNIQUE) STRICT"

abbrev select_text : List ℕ
select_text = codes "SELECT no, name FROM site ORDER BY no"

abbrev insert_text : List ℕ
insert_text = codes "INSERT INTO site (no, name) VALUES (?1, ?2)"

pub is_made : IsMade create_text (schema_of (earlier Site made)) (record (declared Site) { tree = 0 })
unfolding understood everything
is_made = record { command = refl; plain = (refl, refl); alone = (_, refl, refl, refl); whole = refl; defined = refl; counts = refl }

pub selects : (v : Version) → Has v Site → Selects v (declared Site) select_text
unfolding understood everything
selects First there = record { command = refl; plain = (refl, refl); alone = (_, refl, refl, refl); listing = refl; accepted = λ limit trees e. only_third true≢false (sums_nothing site trees); keyed = λ _. refl }
selects Second there = record { command = refl; plain = (refl, refl); alone = (_, refl, refl, refl); listing = refl; accepted = λ limit trees e. only_third true≢false (sums_nothing site trees); keyed = λ _. refl }

insert_is : Says site_schema insert_text (inserts_rows 1 1 site) 2
unfolding understood everything
insert_is = record { command = refl; plain = (refl, refl); alone = (_, refl, refl, refl); writes = refl }

-- ---- what the table makes of its rows

simple : IsSimple site_schema 1 site
simple = simple_at 1 site refl refl refl

shows : (a : ℤ) (b : List ℕ) (tree : List Row) → let row = Int a ∷ Text b ∷ [] in visible site (with_rowid Chosen tree (cast_row site (source_of site row))) ≡ row
shows a b tree = rw (cast_int a) refl

shown : IsShown site site_values
shown = record { shows = λ r. shows r.no r.name }

pub inserts : Inserts (declared Site) site_values 1 insert_text
inserts = inserts_all site_values 1 insert_text 1 site simple 2 insert_is (of_one (Fits site site_values 1 2) (λ _. (refl, refl))) shown

-- ---- no two of the code's rows stand for one

pub one_value : (a b : SiteRow) → site_values a ≡ site_values b → a ≡ b
one_value a b e =
    let no_is : a.no ≡ b.no = cc in
    let name_is : a.name ≡ b.name = cc in
    λ i. record { no = no_is i; name = name_is i }
