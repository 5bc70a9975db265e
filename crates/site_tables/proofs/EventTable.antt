-- The table `event`: what its texts mean, and what it makes of its rows.
use Rattle.std.proofs.Common.{◌≡◌, ℕ, ℤ, List, [], ◌∷◌, Option, refl, true≢false}
use Rattle.std.specs.Prelude.{codes}
use Rattle.sqlite.specs.declared.types.Value.TheVariants.{Int, Text}
use Rattle.sqlite.specs.Values.{or_null}
use Rattle.sqlite.specs.Order.{Row}
use Rattle.sqlite.specs.Listing.{understood}
use Rattle.sqlite_tied.specs.Compute.{everything}
use Rattle.sqlite_rules.specs.Cast.{cast_row}
use Rattle.sqlite_rules.specs.Edit.{with_rowid}
use Rattle.sqlite_rules.specs.declared.error.Rowids.TheVariants.{Chosen}
use Rattle.site_rows.specs.declared.rows.EventRow.{EventRow}
use Rattle.site_rows.specs.declared.tables.Table.TheVariants.{Event}
use Rattle.site_rows.specs.declared.tables.Version.{Version}
use Rattle.site_rows.specs.declared.tables.Version.TheVariants.{First, Second}
use Rattle.site_tables.specs.Commands.{inserts_rows}
use Rattle.site_tables.specs.Inserting.{Inserts}
use Rattle.site_tables.specs.Made.{IsMade}
use Rattle.site_tables.specs.Reads.{Selects}
use Rattle.site_tables.specs.TableRows.{visible}
use Rattle.site_tables.specs.Tables.{Has, declared, earlier, made, schema_of, site_schema, event}
use Rattle.site_tables.specs.Values.{event_values}
use Rattle.site_tables.proofs.Causes.{Says}
use Rattle.site_tables.proofs.Inserted.{IsShown, IsSimple, Fits, inserts_all, of_eight, of_one, source_of}
use Rattle.site_tables.proofs.Meanings.{only_third, sums_nothing}
use Rattle.site_tables.proofs.Tables.{cast_int, cast_text, simple_at, text_or_null}

-- ---- its texts

abbrev create_text : List ℕ
create_text = codes "CREATE TABLE event (no INTEGER PRIMARY KEY, id TEXT, seconds INTEGER NOT NULL, nanos INTEGER NOT NULL, kind INTEGER NOT NULL, make_id TEXT) STRICT"

abbrev select_text : List ℕ
select_text = codes "SELECT no, id, seconds, nanos, kind, make_id FROM event ORDER BY no"

abbrev insert_text : List ℕ
insert_text = codes "INSERT INTO event (no, id, seconds, nanos, kind, make_id) VALUES (?1, ?2, ?3, ?4, ?5, ?6)"

abbrev insert_eight_text : List ℕ
insert_eight_text = codes "INSERT INTO event (no, id, seconds, nanos, kind, make_id) VALUES (?1, ?2, ?3, ?4, ?5, ?6), (?7, ?8, ?9, ?10, ?11, ?12), (?13, ?14, ?15, ?16, ?17, ?18), (?19, ?20, ?21, ?22, ?23, ?24), (?25, ?26, ?27, ?28, ?29, ?30), (?31, ?32, ?33, ?34, ?35, ?36), (?37, ?38, ?39, ?40, ?41, ?42), (?43, ?44, ?45, ?46, ?47, ?48)"

pub is_made : IsMade create_text (schema_of (earlier Event made)) (record (declared Event) { tree = 0 })
unfolding understood everything
is_made = record { command = refl; plain = (refl, refl); alone = (_, refl, refl, refl); whole = refl; defined = refl; counts = refl }

pub selects : (v : Version) → Has v Event → Selects v (declared Event) select_text
unfolding understood everything
selects First there = record { command = refl; plain = (refl, refl); alone = (_, refl, refl, refl); listing = refl; accepted = λ limit trees e. only_third true≢false (sums_nothing event trees); keyed = λ _. refl }
selects Second there = record { command = refl; plain = (refl, refl); alone = (_, refl, refl, refl); listing = refl; accepted = λ limit trees e. only_third true≢false (sums_nothing event trees); keyed = λ _. refl }

insert_is : Says site_schema insert_text (inserts_rows 1 3 event) 6
unfolding understood everything
insert_is = record { command = refl; plain = (refl, refl); alone = (_, refl, refl, refl); writes = refl }

insert_eight_is : Says site_schema insert_eight_text (inserts_rows 8 3 event) 48
unfolding understood everything
insert_eight_is = record { command = refl; plain = (refl, refl); alone = (_, refl, refl, refl); writes = refl }

-- ---- what the table makes of its rows

simple : IsSimple site_schema 3 event
simple = simple_at 3 event refl refl refl

shows : (a : ℤ) (b : Option (List ℕ)) (c : ℤ) (d : ℤ) (e : ℤ) (f : Option (List ℕ)) (tree : List Row) → let row = Int a ∷ or_null Text b ∷ Int c ∷ Int d ∷ Int e ∷ or_null Text f ∷ [] in visible event (with_rowid Chosen tree (cast_row event (source_of event row))) ≡ row
shows a b c d e f tree = rw (cast_int a, cast_text b, cast_int c, cast_int d, cast_int e, cast_text f) refl

shown : IsShown event event_values
shown = record { shows = λ r. shows r.no r.id r.seconds r.nanos r.kind r.make_id }

pub inserts : Inserts (declared Event) event_values 1 insert_text
inserts = inserts_all event_values 1 insert_text 3 event simple 6 insert_is (of_one (Fits event event_values 1 6) (λ _. (refl, refl))) shown

pub inserts_eight : Inserts (declared Event) event_values 8 insert_eight_text
inserts_eight = inserts_all event_values 8 insert_eight_text 3 event simple 48 insert_eight_is (of_eight (Fits event event_values 8 48) (λ _ _ _ _ _ _ _ _. (refl, refl))) shown

-- ---- no two of the code's rows stand for one

pub one_value : (a b : EventRow) → event_values a ≡ event_values b → a ≡ b
one_value a b e =
    let no_is : a.no ≡ b.no = cc in
    let same_id : or_null Text a.id ≡ or_null Text b.id = cc in
    let id : a.id ≡ b.id = text_or_null a.id b.id same_id in
    let seconds_is : a.seconds ≡ b.seconds = cc in
    let nanos_is : a.nanos ≡ b.nanos = cc in
    let kind_is : a.kind ≡ b.kind = cc in
    let same_make_id : or_null Text a.make_id ≡ or_null Text b.make_id = cc in
    let make_id : a.make_id ≡ b.make_id = text_or_null a.make_id b.make_id same_make_id in
    λ i. record { no = no_is i; id = id i; seconds = seconds_is i; nanos = nanos_is i; kind = kind_is i; make_id = make_id i }
