-- The table `pack`: what its texts mean, and what it makes of its rows.
use Rattle.std.proofs.Common.{◌≡◌, ℕ, ℤ, List, [], ◌∷◌, Option, refl, true≢false}
use Rattle.sqlite.specs.Values.{or_null}
use Rattle.std.specs.Prelude.{codes}
use Rattle.sqlite.specs.declared.types.Value.TheVariants.{Int, Text}
use Rattle.sqlite.specs.Order.{Row}
use Rattle.sqlite.specs.Listing.{understood}
use Rattle.sqlite_tied.specs.Compute.{everything}
use Rattle.sqlite_rules.specs.Cast.{cast_row}
use Rattle.sqlite_rules.specs.Edit.{with_rowid}
use Rattle.sqlite_rules.specs.declared.error.Rowids.TheVariants.{Chosen}
use Rattle.site_rows.specs.declared.rows.PackRow.{PackRow}
use Rattle.site_rows.specs.declared.tables.Table.TheVariants.{Pack}
use Rattle.site_rows.specs.declared.tables.Version.{Version}
use Rattle.site_rows.specs.declared.tables.Version.TheVariants.{First, Second}
use Rattle.site_tables.specs.Commands.{inserts_rows}
use Rattle.site_tables.specs.Inserting.{Inserts}
use Rattle.site_tables.specs.Made.{IsMade}
use Rattle.site_tables.specs.Reads.{Selects}
use Rattle.site_tables.specs.TableRows.{visible}
use Rattle.site_tables.specs.Tables.{Has, declared, earlier, made, schema_of, site_schema, pack}
use Rattle.site_tables.specs.Values.{pack_values}
use Rattle.site_tables.proofs.Causes.{Says}
use Rattle.site_tables.proofs.Inserted.{IsShown, IsSimple, Fits, inserts_all, of_one, source_of}
use Rattle.site_tables.proofs.Meanings.{only_third, sums_nothing}
use Rattle.site_tables.proofs.Tables.{cast_int, cast_text, simple_at, text_or_null}

-- ---- its texts

abbrev create_text : List ℕ
create_text = codes "CREATE TABLE pack (event INTEGER PRIMARY KEY REFERENCES event(no), action INTEGER NOT NULL, parent TEXT) STRICT"

abbrev select_text : List ℕ
select_text = codes "SELECT event, action, parent FROM pack ORDER BY event"

abbrev insert_text : List ℕ
insert_text = codes "INSERT INTO pack (event, action, parent) VALUES (?1, ?2, ?3)"

pub is_made : IsMade create_text (schema_of (earlier Pack made)) (record (declared Pack) { tree = 0 })
unfolding understood everything
is_made = record { command = refl; plain = (refl, refl); alone = (_, refl, refl, refl); whole = refl; defined = refl; counts = refl }

pub selects : (v : Version) → Has v Pack → Selects v (declared Pack) select_text
unfolding understood everything
selects First there = absurd there
selects Second there = record { command = refl; plain = (refl, refl); alone = (_, refl, refl, refl); listing = refl; accepted = λ limit trees e. only_third true≢false (sums_nothing pack trees); keyed = λ _. refl }

insert_is : Says site_schema insert_text (inserts_rows 1 10 pack) 3
unfolding understood everything
insert_is = record { command = refl; plain = (refl, refl); alone = (_, refl, refl, refl); writes = refl }

-- ---- what the table makes of its rows

simple : IsSimple site_schema 10 pack
simple = simple_at 10 pack refl refl refl

shows : (a : ℤ) (b : ℤ) (c : Option (List ℕ)) (tree : List Row) → let row = Int a ∷ Int b ∷ or_null Text c ∷ [] in visible pack (with_rowid Chosen tree (cast_row pack (source_of pack row))) ≡ row
shows a b c tree = rw (cast_int a, cast_int b, cast_text c) refl

shown : IsShown pack pack_values
shown = record { shows = λ r. shows r.event r.action r.parent }

pub inserts : Inserts (declared Pack) pack_values 1 insert_text
inserts = inserts_all pack_values 1 insert_text 10 pack simple 3 insert_is (of_one (Fits pack pack_values 1 3) (λ _. (refl, refl))) shown

-- ---- no two of the code's rows stand for one

pub one_value : (a b : PackRow) → pack_values a ≡ pack_values b → a ≡ b
one_value a b e =
    let event_is : a.event ≡ b.event = cc in
    let action_is : a.action ≡ b.action = cc in
    let same_parent : or_null Text a.parent ≡ or_null Text b.parent = cc in
    let parent : a.parent ≡ b.parent = text_or_null a.parent b.parent same_parent in
    λ i. record { event = event_is i; action = action_is i; parent = parent i }
