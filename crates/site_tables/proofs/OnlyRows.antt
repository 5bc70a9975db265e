-- Rows that rise by their keys are the only ones that are listed, and none of them is bad.
use Rattle.std.proofs.Common.{◌≡◌, inl, inr, ℕ, ◌++◌, ◌∷◌, List, [], map, ap₂, refl, sym, ◌∙◌}
use Rattle.std.proofs.lemmas.Cmp.{on_total}
use Rattle.std.proofs.lemmas.List.Sorted.{IsPermutation-sym, IsPermutation-trans}
use Rattle.sqlite.specs.Order.{Row}
use Rattle.sqlite.specs.Table.{Table}
use Rattle.sqlite.specs.Tree.{Trees}
use Rattle.sqlite_sql.proofs.QueryLemmas.{key_cmp_total}
use Rattle.site_rows.specs.declared.rows.Rows.{Rows}
use Rattle.site_rows.specs.declared.tables.Table.{«Table» as SiteTable}
use Rattle.site_rows.specs.declared.tables.Table.TheVariants.{Store, Site, Address, Event, Part, Pack, Packed, Quarantine, Outbox, Seen, Parent, Recall}
use Rattle.site_rows.specs.declared.tables.Version.{Version}
use Rattle.site_tables.specs.AllReads.{AreListed}
use Rattle.site_tables.specs.Reads.{key_order, IsStrict, IsListed, HasBadRow}
use Rattle.site_tables.specs.Stored.{contents_of}
use Rattle.site_tables.specs.Tables.{Has}
use Rattle.site_tables.specs.TableRows.{HasRows, visible, key_of}
use Rattle.site_tables.specs.Unreadable.{IsBadAt}
use Rattle.site_tables.specs.Values.{RowOf, values_of, rows_in}
use Rattle.site_tables.proofs.StoreTable as store_table
use Rattle.site_tables.proofs.SiteTable as site_table
use Rattle.site_tables.proofs.AddressTable as address_table
use Rattle.site_tables.proofs.EventTable as event_table
use Rattle.site_tables.proofs.PackTable as pack_table
use Rattle.site_tables.proofs.PackedTable as packed_table
use Rattle.site_tables.proofs.PartTable as part_table
use Rattle.site_tables.proofs.QuarantineTable as quarantine_table
use Rattle.site_tables.proofs.OutboxTable as outbox_table
use Rattle.site_tables.proofs.SeenTable as seen_table
use Rattle.site_tables.proofs.ParentTable as parent_table
use Rattle.site_tables.proofs.RecallTable as recall_table
use Rattle.site_tables.proofs.InSchemas.{has_or_not}
use Rattle.site_tables.proofs.Order.{sorted_is, strict_sorted}
use Rattle.site_tables.proofs.Readable.{MayBeRead}

-- a table's rows by strict keys are the only ones that are listed
only_list : (table : Table) (tree xs ys : List Row) → IsStrict table xs → IsListed table tree xs → IsListed table tree ys → ys ≡ xs
only_list table tree xs ys strict listed also =
    let shown = map (visible table) tree in
    sorted_is (key_order table) (on_total (key_of table) (key_cmp_total _ 0)) xs ys strict (IsPermutation-trans xs shown ys (IsPermutation-sym shown xs listed.same) also.same) also.sorted

-- rows in strict order that a table holds are listed
pub is_listed : (table : Table) (rows tree : List Row) → IsStrict table rows → HasRows table rows tree → IsListed table tree rows
is_listed table rows tree strict has = record { same = has.same; sorted = strict_sorted (key_order table) (on_total (key_of table) (key_cmp_total _ 0)) rows strict }

both_same : {X : Type 0} (a b : X) (as' bs : List X) → a ∷ as' ≡ b ∷ bs → (a ≡ b) × (as' ≡ bs)
both_same a b as' bs e = (cc, cc)

-- ---- none of them is bad

among : {X : Type 0} (row_of : X → Row) (xs : List X) (front : List Row) (row : Row) (others : List Row) → front ++ row ∷ others ≡ map row_of xs → (x : X) × (row ≡ row_of x)
among row_of [] [] row others e = absurd (let x : row ∷ others ≡ [] = e in cc)
among row_of [] (r ∷ front) row others e = absurd (let x : r ∷ front ++ row ∷ others ≡ [] = e in cc)
among row_of (x ∷ xs) [] row others e = (x, (both_same row (row_of x) others (map row_of xs) e).0)
among row_of (x ∷ xs) (r ∷ front) row others e = among row_of xs front row others (both_same r (row_of x) (front ++ row ∷ others) (map row_of xs) e).1

none_bad : {X : Type 0} {table : Table} {row_of : X → Row} {tree : List Row} {place : ℕ} (xs : List X) → IsStrict table (map row_of xs) → IsListed table tree (map row_of xs) → HasBadRow table row_of place tree → ⊥
none_bad {table = table} {row_of = row_of} {tree = tree} xs strict listed bad =
    let front = map row_of bad.0 in
    let it = among row_of xs front bad.1 bad.2 (only_list table tree (map row_of xs) (front ++ bad.1 ∷ bad.2) strict listed bad.3) in
    bad.5 it.0 it.1

pub no_bad_row : (v : Version) (named : SiteTable) (place : ℕ) (held : Rows) (db : Trees) → Has v named → MayBeRead (contents_of held) → AreListed v (contents_of held) db → IsBadAt named place db → ⊥
no_bad_row v named place held db there order listed bad = none_bad (rows_in held named) (order named) (listed.of named there) bad

-- ---- they are the only ones

same_rows : {X : Type 0} (row_of : X → Row) → ((a b : X) → row_of a ≡ row_of b → a ≡ b) → (xs ys : List X) → map row_of xs ≡ map row_of ys → xs ≡ ys
same_rows row_of one [] [] e = refl
same_rows row_of one [] (y ∷ ys) e = absurd (let x : [] ≡ row_of y ∷ map row_of ys = e in cc)
same_rows row_of one (x ∷ xs) [] e = absurd (let y : row_of x ∷ map row_of xs ≡ [] = e in cc)
same_rows row_of one (x ∷ xs) (y ∷ ys) e =
    let it = both_same (row_of x) (row_of y) (map row_of xs) (map row_of ys) e in
    ap₂ ◌∷◌ (one x y it.0) (same_rows row_of one xs ys it.1)

-- values that stand for the rows of one table, of which no two stand for one row
only_values : {X : Type 0} {table : Table} {row_of : X → Row} {tree : List Row} {xs ys : List X} → ((a b : X) → row_of a ≡ row_of b → a ≡ b) → IsStrict table (map row_of xs) → IsListed table tree (map row_of xs) → IsListed table tree (map row_of ys) → ys ≡ xs
only_values {table = table} {row_of = row_of} {tree = tree} {xs = xs} {ys = ys} one strict listed also = same_rows row_of one ys xs (only_list table tree (map row_of xs) (map row_of ys) strict listed also)

-- no two of the code's rows of a table stand for one
one_value : (t : SiteTable) (a b : RowOf t) → values_of t a ≡ values_of t b → a ≡ b
one_value Store = store_table.one_value
one_value Site = site_table.one_value
one_value Address = address_table.one_value
one_value Event = event_table.one_value
one_value Part = part_table.one_value
one_value Pack = pack_table.one_value
one_value Packed = packed_table.one_value
one_value Quarantine = quarantine_table.one_value
one_value Outbox = outbox_table.one_value
one_value Seen = seen_table.one_value
one_value Parent = parent_table.one_value
one_value Recall = recall_table.one_value

no_values : {X : Type 0} (row_of : X → Row) (xs : List X) → map row_of xs ≡ [] → xs ≡ []
no_values row_of [] e = refl
no_values row_of (x ∷ xs) e = absurd (let y : row_of x ∷ map row_of xs ≡ [] = e in cc)

pub only_rows : (v : Version) (held rows : Rows) (db : Trees) → held.version ≡ rows.version → MayBeRead (contents_of held) → AreListed v (contents_of held) db → AreListed v (contents_of rows) db → rows ≡ held
only_rows v held rows db version order listed also =
    let same : (t : SiteTable) → rows_in rows t ≡ rows_in held t = λ t. elim (has_or_not v t) [
      | inl there ↦ only_values (one_value t) (order t) (listed.of t there) (also.of t there)
      | inr none ↦ no_values (values_of t) (rows_in rows t) (also.rest t none) ∙ sym (no_values (values_of t) (rows_in held t) (listed.rest t none))
    ] in
    λ i. record {
      version = sym version i;
      store = same Store i;
      site = same Site i;
      address = same Address i;
      event = same Event i;
      part = same Part i;
      pack = same Pack i;
      packed = same Packed i;
      quarantine = same Quarantine i;
      outbox = same Outbox i;
      seen = same Seen i;
      parent = same Parent i;
      recall = same Recall i;
    }
