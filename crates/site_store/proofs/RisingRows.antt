-- The rows of a record rise by the keys of their tables: those of the table `store`, of lists by their places, and of maps.
use Rattle.std.proofs.Common.{◌≡◌, ℕ, ◌+◌, ◌<◌, pos, List, [], ◌∷◌, ◌++◌, map, refl, sym, ap₂, subst, ◌∙◌, arith}
use Rattle.std.specs.Prelude.{T}
use Rattle.std.specs.Cmp.Lexicographic.{slice_cmp}
use Rattle.std.specs.FinMap.{FinMap, entries, entries_sorted, is_sorted}
use Rattle.std.specs.FinMap.Entries.{below_all}
use Rattle.std.specs.List.{AllByRecursion, enumerate_from, flat_map}
use Rattle.std.specs.Ordering.{is_lt, nat_cmp, ordering_then}
use Rattle.std.specs.declared.cmp.Ordering.{Ordering}
use Rattle.std.specs.declared.cmp.Ordering.TheVariants.{Less, Equal, Greater}
use Rattle.std.proofs.lemmas.Bool.Decides.{nat_tests}
use Rattle.std.proofs.lemmas.Int.{ints}
use Rattle.std.proofs.lemmas.List.{map-append}
use Rattle.sqlite.specs.Order.{Row}
use Rattle.sqlite.specs.Table.{Table}
use Rattle.sqlite.specs.declared.types.Value.TheVariants.{Int, Text}
use Rattle.sqlite_value.specs.Order.{value_cmp}
use Rattle.sqlite_value.proofs.OrderLemmas.{value_cmp-Int, value_cmp-Text}
use Rattle.sqlite_trees.specs.Tree.{IsAscending}
use Rattle.sqlite_trees.proofs.ListLemmas.{map-map, ascending-map, ascending_weaker}
use Rattle.frame_core.proofs.Ascending.{first, second}
use Rattle.frame_core.specs.Numbers.{Recall}
use Rattle.site_core.specs.ItemSets as set
use Rattle.site_core.specs.Quarantines.{Items}
use Rattle.site_core.specs.Records.{Record}
use Rattle.site_rows.specs.HeldItems.{Held, all_held, held_cmp, held_of, held_under}
use Rattle.site_rows.specs.RecordRows.{address_row, addresses_of, event_row, outbox_row, parent_row, quarantine_row, quarantine_rows, recall_row, rows_under, seen_row, site_row}
use Rattle.site_rows.specs.declared.tables.Version.{Version}
use Rattle.site_rows.specs.declared.rows.QuarantineRow.{QuarantineRow}
use Rattle.site_rows.proofs.HeldInTurn.{all_ascend}
use Rattle.site_tables.specs.Reads.{IsStrict, key_order}
use Rattle.site_tables.specs.Tables.{store, site, address, event, quarantine, outbox, seen, parent, recall}
use Rattle.site_tables.specs.Values.{store_values, site_values, address_values, event_values, quarantine_values, outbox_values, seen_values, parent_values, recall_values}

-- ---- the order of keys
pub numbers_alike : (m n : ℕ) → value_cmp (Int (pos m)) (Int (pos n)) ≡ nat_cmp m n
numbers_alike m n = value_cmp-Int (pos m) (pos n) ∙ grind (arith, ints, nat_tests)

-- behind the last key there is none that could decide
last_key : (r : Ordering) → ordering_then r Equal ≡ r
last_key Less = refl
last_key Equal = refl
last_key Greater = refl

in_turn : (r s t : Ordering) → ordering_then (ordering_then r s) t ≡ ordering_then r (ordering_then s t)
in_turn Less s t = refl
in_turn Equal s t = refl
in_turn Greater s t = refl

-- a key of one number, of one text, of two numbers, and of two numbers and a text
pub by_number : (a b : ℕ) → ordering_then (value_cmp (Int (pos a)) (Int (pos b))) Equal ≡ nat_cmp a b
by_number a b = last_key (value_cmp (Int (pos a)) (Int (pos b))) ∙ numbers_alike a b

by_text : (a b : List ℕ) → ordering_then (value_cmp (Text a) (Text b)) Equal ≡ slice_cmp nat_cmp a b
by_text a b = last_key (value_cmp (Text a) (Text b)) ∙ value_cmp-Text a b

by_numbers : (a b c d : ℕ) → ordering_then (value_cmp (Int (pos a)) (Int (pos b))) (ordering_then (value_cmp (Int (pos c)) (Int (pos d))) Equal) ≡ ordering_then (nat_cmp a b) (nat_cmp c d)
by_numbers a b c d = ap₂ ordering_then (numbers_alike a b) (by_number c d)

by_numbers_and_text : (a b c d : ℕ) (s t : List ℕ)
    → ordering_then (value_cmp (Int (pos a)) (Int (pos b))) (ordering_then (value_cmp (Int (pos c)) (Int (pos d))) (ordering_then (value_cmp (Text s) (Text t)) Equal))
    ≡ ordering_then (ordering_then (nat_cmp a b) (nat_cmp c d)) (slice_cmp nat_cmp s t)
by_numbers_and_text a b c d s t =
    ap₂ ordering_then (numbers_alike a b) (ap₂ ordering_then (numbers_alike c d) (by_text s t))
    ∙ sym (in_turn (nat_cmp a b) (nat_cmp c d) (slice_cmp nat_cmp s t))

-- ---- lists that rise
less : (o : Ordering) → T (is_lt o) → o ≡ Less
less Less p = refl
less Equal p = absurd p
less Greater p = absurd p

module _ {K X : Type 0} (R : K → K → Ordering) where
  below_each : (x : K) (es : List (K × X)) → T (below_all R x es) → AllByRecursion (λ (e : K × X). R x e.0 ≡ Less) es
  below_each x [] h = tt
  below_each x (e ∷ es) h = (less (R x e.0) (first _ _ h), below_each x es (second _ _ h))

  entries_rise : (es : List (K × X)) → T (is_sorted R es) → IsAscending (λ (a b : K × X). R a.0 b.0 ≡ Less) es
  entries_rise [] up = tt
  entries_rise (e ∷ es) up = (below_each e.0 es (first _ _ up), entries_rise es (second _ _ up))

pub nat_below : (m n : ℕ) → m < n → nat_cmp m n ≡ Less
nat_below m n low = grind (arith, low, nat_tests)

above : {X : Type 0} (low n : ℕ) (xs : List X) → low < n → AllByRecursion (λ (e : ℕ × X). nat_cmp low e.0 ≡ Less) (enumerate_from n xs)
above low n [] h = tt
above low n (x ∷ xs) h = (nat_below low n h, above low (n + 1) xs (omega (arith, h)))

pub places_rise : {X : Type 0} (n : ℕ) (xs : List X) → IsAscending (λ (a b : ℕ × X). nat_cmp a.0 b.0 ≡ Less) (enumerate_from n xs)
places_rise n [] = tt
places_rise n (x ∷ xs) = (above n (n + 1) xs (omega arith), places_rise (n + 1) xs)

-- ---- rows whose keys are in the order of what the rows are made of
module _ {X R : Type 0} (table : Table) (values : R → Row) (row : X → R) (cmp : X → X → Ordering) (same : (a b : X) → key_order table (values (row a)) (values (row b)) ≡ cmp a b) where
  rise_alike : (xs : List X) → IsAscending (λ a b. cmp a b ≡ Less) xs → IsStrict table (map values (map row xs))
  rise_alike xs up =
      let key_below = λ (a b : Row). key_order table a b ≡ Less in
      let of_row = λ (x : X). values (row x) in
      subst (IsStrict table) (sym (map-map values row xs)) (ascending-map key_below of_row xs (ascending_weaker (λ a b. cmp a b ≡ Less) (λ a b. key_below (of_row a) (of_row b)) (λ a b low. same a b ∙ low) xs up))

-- the rows of a list by their places, and those of the entries of a map
of_list : {X R : Type 0} (table : Table) (values : R → Row) (row : ℕ × X → R) → ((a b : ℕ × X) → key_order table (values (row a)) (values (row b)) ≡ nat_cmp a.0 b.0)
    → (n : ℕ) (xs : List X) → IsStrict table (map values (map row (enumerate_from n xs)))
of_list table values row same n xs = rise_alike table values row (λ a b. nat_cmp a.0 b.0) same (enumerate_from n xs) (places_rise n xs)

of_map : {K V R : Type 0} {cmp : K → K → Ordering} (table : Table) (values : R → Row) (row : K × V → R) → ((a b : K × V) → key_order table (values (row a)) (values (row b)) ≡ cmp a.0 b.0)
    → (m : FinMap cmp V) → IsStrict table (map values (map row (entries m)))
of_map {cmp = cmp} table values row same m = rise_alike table values row (λ a b. cmp a.0 b.0) same (entries m) (entries_rise cmp (entries m) (entries_sorted m))

-- ---- the tables
pub rises_store : (v : Version) (r : Record) → IsStrict store (map store_values (rows_under v r).store)
rises_store v r = (tt, tt)

pub rises_site : (v : Version) (r : Record) → IsStrict site (map site_values (rows_under v r).site)
rises_site v r = of_list site site_values site_row (λ a b. by_number a.0 b.0) 0 r.sites

pub rises_address : (v : Version) (r : Record) → IsStrict address (map address_values (rows_under v r).address)
rises_address v r = of_map address address_values address_row (λ a b. by_text a.0 b.0) (addresses_of r.sites)

pub rises_event : (v : Version) (r : Record) → IsStrict event (map event_values (rows_under v r).event)
rises_event v r = of_list event event_values event_row (λ a b. by_number a.0 b.0) 1 r.captured.events

pub rises_outbox : (v : Version) (r : Record) → IsStrict outbox (map outbox_values (rows_under v r).outbox)
rises_outbox v r = of_map outbox outbox_values outbox_row (λ a b. by_number a.0 b.0) r.engagement.outbox

pub rises_recall : (v : Version) (r : Record) → IsStrict recall (map recall_values (rows_under v r).recall)
rises_recall v r = of_map recall recall_values recall_row (λ a b. by_number a.0 b.0) r.engagement.own

pub rises_seen : (v : Version) (r : Record) → IsStrict seen (map seen_values (rows_under v r).seen)
rises_seen v r = of_map seen seen_values seen_row (λ a b. by_numbers a.0.site b.0.site a.0.number b.0.number) r.engagement.seen

pub rises_parent : (v : Version) (r : Record) → IsStrict parent (map parent_values (rows_under v r).parent)
rises_parent v r = of_map parent parent_values parent_row (λ a b. by_numbers a.0.site b.0.site a.0.number b.0.number) r.engagement.parents

-- the items under all recalls
abbrev held_row : Held → QuarantineRow
held_row h = quarantine_row h.0.0 h.0.1

rows_of_held : (es : List (Recall × Items)) → map held_row (flat_map held_under es) ≡ flat_map quarantine_rows es
rows_of_held [] = refl
rows_of_held (e ∷ es) = map-append held_row (held_under e) (flat_map held_under es) ∙ ap₂ ◌++◌ (map-map held_row (held_of e.0) (set.items e.1)) (rows_of_held es)

pub rises_quarantine : (v : Version) (r : Record) → IsStrict quarantine (map quarantine_values (rows_under v r).quarantine)
rises_quarantine v r =
    let q = r.quarantine in
    subst (λ rows. IsStrict quarantine (map quarantine_values rows)) (rows_of_held (entries q))
    (rise_alike quarantine quarantine_values held_row (λ a b. held_cmp a.0 b.0) (λ a b. by_numbers_and_text a.0.0.site b.0.0.site a.0.0.number b.0.0.number a.0.1 b.0.1) (all_held q)
    (entries_rise held_cmp (all_held q) (all_ascend q)))
