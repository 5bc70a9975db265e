-- The table `seen`: what its texts mean, and what it makes of its rows.
use Rattle.std.proofs.Common.{◌≡◌, ℕ, ℤ, List, [], ◌∷◌, refl, true≢false}
use Rattle.std.specs.Prelude.{codes}
use Rattle.sqlite.specs.declared.types.Value.TheVariants.{Int}
use Rattle.sqlite.specs.Order.{Row}
use Rattle.sqlite.specs.Listing.{understood}
use Rattle.sqlite_tied.specs.Compute.{everything}
use Rattle.sqlite_rules.specs.Cast.{cast_row}
use Rattle.sqlite_rules.specs.Edit.{with_rowid}
use Rattle.sqlite_rules.specs.declared.error.Rowids.TheVariants.{Chosen}
use Rattle.site_rows.specs.declared.rows.SeenRow.{SeenRow}
use Rattle.site_rows.specs.declared.tables.Table.TheVariants.{Seen}
use Rattle.site_rows.specs.declared.tables.Version.{Version}
use Rattle.site_rows.specs.declared.tables.Version.TheVariants.{First, Second}
use Rattle.site_tables.specs.Commands.{inserts_rows}
use Rattle.site_tables.specs.Inserting.{Inserts}
use Rattle.site_tables.specs.Made.{IsMade}
use Rattle.site_tables.specs.Reads.{Selects}
use Rattle.site_tables.specs.TableRows.{visible}
use Rattle.site_tables.specs.Tables.{Has, declared, earlier, made, schema_of, site_schema, seen}
use Rattle.site_tables.specs.Values.{seen_values}
use Rattle.site_tables.proofs.Causes.{Says}
use Rattle.site_tables.proofs.Inserted.{IsShown, IsSimple, Fits, inserts_all, of_one, source_of}
use Rattle.site_tables.proofs.Meanings.{only_third, sums_nothing}
use Rattle.site_tables.proofs.Tables.{cast_int, cast_null, simple_at}

-- ---- its texts

abbrev create_text : List ℕ
create_text = codes "CREATE TABLE seen (sender INTEGER NOT NULL, number INTEGER NOT NULL, recall_site INTEGER NOT NULL, recall_no INTEGER NOT NULL, PRIMARY KEY (sender, number)) STRICT"

abbrev select_text : List ℕ
select_text = codes "SELECT sender, number, recall_site, recall_no FROM seen ORDER BY sender, number"

abbrev insert_text : List ℕ
insert_text = codes "INSERT INTO seen (sender, number, recall_site, recall_no) VALUES (?1, ?2, ?3, ?4)"

pub is_made : IsMade create_text (schema_of (earlier Seen made)) (record (declared Seen) { tree = 0 })
unfolding understood everything
is_made = record { command = refl; plain = (refl, refl); alone = (_, refl, refl, refl); whole = refl; defined = refl; counts = refl }

pub selects : (v : Version) → Has v Seen → Selects v (declared Seen) select_text
unfolding understood everything
selects First there = record { command = refl; plain = (refl, refl); alone = (_, refl, refl, refl); listing = refl; accepted = λ limit trees e. only_third true≢false (sums_nothing seen trees); keyed = λ _. refl }
selects Second there = record { command = refl; plain = (refl, refl); alone = (_, refl, refl, refl); listing = refl; accepted = λ limit trees e. only_third true≢false (sums_nothing seen trees); keyed = λ _. refl }

insert_is : Says site_schema insert_text (inserts_rows 1 7 seen) 4
unfolding understood everything
insert_is = record { command = refl; plain = (refl, refl); alone = (_, refl, refl, refl); writes = refl }

-- ---- what the table makes of its rows

simple : IsSimple site_schema 7 seen
simple = simple_at 7 seen refl refl refl

shows : (a : ℤ) (b : ℤ) (c : ℤ) (d : ℤ) (tree : List Row) → let row = Int a ∷ Int b ∷ Int c ∷ Int d ∷ [] in visible seen (with_rowid Chosen tree (cast_row seen (source_of seen row))) ≡ row
shows a b c d tree = rw (cast_int a, cast_int b, cast_int c, cast_int d, cast_null) refl

shown : IsShown seen seen_values
shown = record { shows = λ r. shows r.sender r.number r.recall_site r.recall_no }

pub inserts : Inserts (declared Seen) seen_values 1 insert_text
inserts = inserts_all seen_values 1 insert_text 7 seen simple 4 insert_is (of_one (Fits seen seen_values 1 4) (λ _. (refl, refl))) shown

-- ---- no two of the code's rows stand for one

pub one_value : (a b : SeenRow) → seen_values a ≡ seen_values b → a ≡ b
one_value a b e =
    let sender_is : a.sender ≡ b.sender = cc in
    let number_is : a.number ≡ b.number = cc in
    let recall_site_is : a.recall_site ≡ b.recall_site = cc in
    let recall_no_is : a.recall_no ≡ b.recall_no = cc in
    λ i. record { sender = sender_is i; number = number_is i; recall_site = recall_site_is i; recall_no = recall_no_is i }
