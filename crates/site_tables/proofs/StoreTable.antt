-- The table `store`: what its texts mean, and what it makes of its rows.
use Rattle.std.proofs.Common.{◌≡◌, ℕ, ℤ, List, [], ◌∷◌, Result, drop, map, pos, refl, true≢false}
use Rattle.std.specs.Prelude.{codes}
use Rattle.sqlite.specs.declared.error.Error.{Error}
use Rattle.sqlite.specs.declared.types.Value.TheVariants.{Int}
use Rattle.sqlite.specs.Order.{Row}
use Rattle.sqlite.specs.State.{State}
use Rattle.sqlite.specs.Term.{col, eval_all}
use Rattle.sqlite.specs.Listing.{understood}
use Rattle.sqlite_tied.specs.Compute.{everything}
use Rattle.sqlite_rules.specs.Cast.{cast_row}
use Rattle.sqlite_rules.specs.Edit.{with_rowid}
use Rattle.sqlite_rules.specs.declared.error.Rowids.TheVariants.{Chosen}
use Rattle.site_rows.specs.declared.changes.Numbers.{Numbers}
use Rattle.site_rows.specs.declared.rows.StoreRow.{StoreRow}
use Rattle.site_rows.specs.declared.tables.Table.TheVariants.{Store}
use Rattle.site_rows.specs.declared.tables.Version.{Version}
use Rattle.site_rows.specs.declared.tables.Version.TheVariants.{First, Second}
use Rattle.site_rows.specs.StepRows.{with_numbers}
use Rattle.site_tables.specs.Commands.{inserts_rows, update_terms, updates_each}
use Rattle.site_tables.specs.Inserting.{Inserts}
use Rattle.site_tables.specs.Made.{IsMade}
use Rattle.site_tables.specs.Reads.{Selects}
use Rattle.site_tables.specs.TableRows.{Writes, visible}
use Rattle.site_tables.specs.Tables.{Has, declared, earlier, made, schema_of, site_schema, store}
use Rattle.site_tables.specs.Values.{sets_numbers, sets_version, store_values}
use Rattle.site_tables.proofs.Causes.{Says}
use Rattle.site_tables.proofs.Inserted.{IsShown, IsSimple, Fits, inserts_all, of_one, source_of}
use Rattle.site_tables.proofs.Meanings.{only_third, sums_nothing}
use Rattle.site_tables.proofs.Renewed.{updates_every}
use Rattle.site_tables.proofs.Steps.{Ran, writes_by}
use Rattle.site_tables.proofs.Tables.{cast_int, quiet, simple_at}

-- ---- its texts

abbrev create_text : List ℕ
create_text = codes "CREATE TABLE store (one INTEGER PRIMARY KEY CHECK (one = 1), version INTEGER NOT NULL, me INTEGER NOT NULL, next_message INTEGER NOT NULL, next_recall INTEGER NOT NULL) STRICT"

abbrev select_text : List ℕ
select_text = codes "SELECT one, version, me, next_message, next_recall FROM store ORDER BY one"

abbrev insert_text : List ℕ
insert_text = codes "INSERT INTO store (one, version, me, next_message, next_recall) VALUES (?1, ?2, ?3, ?4, ?5)"

abbrev version_text : List ℕ
version_text = codes "UPDATE store SET version = ?1"

abbrev update_text : List ℕ
update_text = codes "UPDATE store SET next_message = ?1, next_recall = ?2"

pub is_made : IsMade create_text (schema_of (earlier Store made)) (record (declared Store) { tree = 0 })
unfolding understood everything
is_made = record { command = refl; plain = (refl, refl); alone = (_, refl, refl, refl); whole = refl; defined = refl; counts = refl }

pub selects : (v : Version) → Has v Store → Selects v (declared Store) select_text
unfolding understood everything
selects First there = record { command = refl; plain = (refl, refl); alone = (_, refl, refl, refl); listing = refl; accepted = λ limit trees e. only_third true≢false (sums_nothing store trees); keyed = λ _. refl }
selects Second there = record { command = refl; plain = (refl, refl); alone = (_, refl, refl, refl); listing = refl; accepted = λ limit trees e. only_third true≢false (sums_nothing store trees); keyed = λ _. refl }

insert_is : Says site_schema insert_text (inserts_rows 1 0 store) 5
unfolding understood everything
insert_is = record { command = refl; plain = (refl, refl); alone = (_, refl, refl, refl); writes = refl }

-- ---- what the table makes of its rows

simple : IsSimple site_schema 0 store
simple = simple_at 0 store refl refl refl

shows : (a : ℤ) (b : ℤ) (c : ℤ) (d : ℤ) (e : ℤ) (tree : List Row) → let row = Int a ∷ Int b ∷ Int c ∷ Int d ∷ Int e ∷ [] in visible store (with_rowid Chosen tree (cast_row store (source_of store row))) ≡ row
shows a b c d e tree = rw (cast_int a, cast_int b, cast_int c, cast_int d, cast_int e) refl

shown : IsShown store store_values
shown = record { shows = λ r. shows (pos 1) r.version r.me r.next_message r.next_recall }

pub inserts : Inserts (declared Store) store_values 1 insert_text
inserts = inserts_all store_values 1 insert_text 0 store simple 5 insert_is (of_one (Fits store store_values 1 5) (λ _. (refl, refl))) shown

update_is : Says site_schema update_text (updates_each 0 store (col 1 2 ∷ col 1 3 ∷ col 0 0 ∷ col 0 1 ∷ [])) 2
unfolding understood everything
update_is = record { command = refl; plain = (refl, refl); alone = (_, refl, refl, refl); writes = refl }

makes : (n : Numbers) (r : Row) → visible store (cast_row store (drop 1 (eval_all (update_terms (col 1 2 ∷ col 1 3 ∷ col 0 0 ∷ col 0 1 ∷ [])) ((Int n.next_message ∷ Int n.next_recall ∷ []) ∷ r ∷ [])))) ≡ sets_numbers n (visible store r)
makes n r = rw (cast_int n.next_message, cast_int n.next_recall) refl

pub updates_numbers : (n : Numbers) {old new : State} {r : Result ℕ Error} → Ran update_text (Int n.next_message ∷ Int n.next_recall ∷ []) old new r → Writes store (map (sets_numbers n)) old new r
updates_numbers n {old} {new} {r} ran =
    writes_by store (map (sets_numbers n)) update_text (Int n.next_message ∷ Int n.next_recall ∷ []) _ update_is old new r ran
    (λ count has h. updates_every update_text site_schema 0 store _ (Int n.next_message ∷ Int n.next_recall ∷ []) (sets_numbers n) old new count simple (update_is.command, update_is.plain) (quiet 0) (makes n) has h)

version_is : Says site_schema version_text (updates_each 0 store (col 0 0 ∷ col 1 3 ∷ col 1 4 ∷ col 1 5 ∷ [])) 1
unfolding understood everything
version_is = record { command = refl; plain = (refl, refl); alone = (_, refl, refl, refl); writes = refl }

remakes : (version : ℤ) (r : Row) → visible store (cast_row store (drop 1 (eval_all (update_terms (col 0 0 ∷ col 1 3 ∷ col 1 4 ∷ col 1 5 ∷ [])) ((Int version ∷ []) ∷ r ∷ [])))) ≡ sets_version version (visible store r)
remakes version r = rw (cast_int version) refl

pub updates_version : (version : ℤ) {old new : State} {r : Result ℕ Error} → Ran version_text (Int version ∷ []) old new r → Writes store (map (sets_version version)) old new r
updates_version version {old} {new} {r} ran =
    writes_by store (map (sets_version version)) version_text (Int version ∷ []) _ version_is old new r ran
    (λ count has h. updates_every version_text site_schema 0 store _ (Int version ∷ []) (sets_version version) old new count simple (version_is.command, version_is.plain) (quiet 0) (remakes version) has h)

-- of a row of integers, only the two numbers change
pub numbers_set : (n : Numbers) (rows : List StoreRow) → map (sets_numbers n) (map store_values rows) ≡ map store_values (map (with_numbers n) rows)
numbers_set n [] = refl
numbers_set n (r ∷ rows) = rw (cast_int (pos 1), cast_int r.version, cast_int r.me, numbers_set n rows) refl

-- ---- no two of the code's rows stand for one

pub one_value : (a b : StoreRow) → store_values a ≡ store_values b → a ≡ b
one_value a b e =
    let version_is : a.version ≡ b.version = cc in
    let me_is : a.me ≡ b.me = cc in
    let next_message_is : a.next_message ≡ b.next_message = cc in
    let next_recall_is : a.next_recall ≡ b.next_recall = cc in
    λ i. record { version = version_is i; me = me_is i; next_message = next_message_is i; next_recall = next_recall_is i }
