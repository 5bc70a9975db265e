-- The rows of packs rise by event, and those of their children by event and place.
use Rattle.std.proofs.Common.{◌≡◌, ℕ, ◌+◌, ◌<◌, pos, List, [], ◌∷◌, ◌++◌, map, flat_map, refl, ◌∙◌, arith}
use Rattle.std.specs.List.{AllByRecursion, enumerate_from}
use Rattle.std.specs.Ordering.{nat_cmp}
use Rattle.std.specs.declared.cmp.Ordering.TheVariants.{Less}
use Rattle.sqlite.specs.Order.{Row}
use Rattle.sqlite.specs.declared.types.Value.TheVariants.{Int}
use Rattle.sqlite_value.specs.Order.{value_cmp}
use Rattle.sqlite_trees.specs.Tree.{IsAscending}
use Rattle.sqlite_trees.proofs.ListLemmas.{all_of, all_weaker, all-append, all-map, ascending-append, ascending-map, ascending_weaker}
use Rattle.event_json.specs.Contents.{number_of}
use Rattle.event_json.specs.Events.{Content}
use Rattle.event_json.specs.declared.bodies.Body.{Body}
use Rattle.event_json.specs.declared.bodies.Body.TheVariants.{Note, Ship, Make, Pack}
use Rattle.site_core.specs.Records.{Record}
use Rattle.site_rows.specs.RecordRows.{children_of, pack_rows, packed_row, packed_rows, packs_of, rows_under}
use Rattle.site_rows.specs.declared.tables.Version.{Version}
use Rattle.site_rows.specs.declared.rows.PackRow.{PackRow}
use Rattle.site_rows.specs.declared.rows.PackedRow.{PackedRow}
use Rattle.site_tables.specs.Reads.{IsStrict, key_order}
use Rattle.site_tables.specs.Tables.{pack, packed}
use Rattle.site_tables.specs.Values.{pack_values, packed_values}
use Rattle.site_store.proofs.RisingParts.{first_below, first_ties, value_below, value_ties}
use Rattle.site_store.proofs.RisingRows.{by_number, places_rise}

-- ---- actions and parents
abbrev IsBelow : PackRow → PackRow → Type 0
IsBelow a b = key_order pack (pack_values a) (pack_values b) ≡ Less

-- of a later event
abbrev IsLater : ℕ → PackRow → Type 0
IsLater event row = (n : ℕ) × (event < n) × (row.event ≡ pos n)

pack_first : (n : ℕ) (body : Body) (rest : List PackRow) → AllByRecursion (IsLater n) rest → IsAscending IsBelow rest → IsAscending IsBelow (pack_rows n body ++ rest)
pack_first n (Note items) rest later up = up
pack_first n (Ship items to outside) rest later up = up
pack_first n (Make id ins outs) rest later up = up
pack_first n (Pack action parent children) rest later up =
    let first : PackRow = record { event = pos n; action = pos (number_of action); parent = parent } in
    (all_weaker (IsLater n) (IsBelow first) (λ row l. first_below (value_cmp (Int (pos n)) (Int row.event)) _ (value_below (pos n) row.event n l.0 refl l.2 l.1)) rest later, up)

pack_later : (event n : ℕ) (body : Body) (rest : List PackRow) → event < n → AllByRecursion (IsLater event) rest → AllByRecursion (IsLater event) (pack_rows n body ++ rest)
pack_later event n (Note items) rest low later = later
pack_later event n (Ship items to outside) rest low later = later
pack_later event n (Make id ins outs) rest low later = later
pack_later event n (Pack action parent children) rest low later = ((n, low, refl), later)

packs_later : (event n : ℕ) (es : List Content) → event < n → AllByRecursion (IsLater event) (flat_map packs_of (enumerate_from n es))
packs_later event n [] low = tt
packs_later event n (e ∷ es) low = pack_later event n e.body (flat_map packs_of (enumerate_from (n + 1) es)) low (packs_later event (n + 1) es (omega (arith, low)))

packs_rise : (n : ℕ) (es : List Content) → IsAscending IsBelow (flat_map packs_of (enumerate_from n es))
packs_rise n [] = tt
packs_rise n (e ∷ es) = pack_first n e.body (flat_map packs_of (enumerate_from (n + 1) es)) (packs_later n (n + 1) es (omega arith)) (packs_rise (n + 1) es)

pub rises_pack : (v : Version) (r : Record) → IsStrict pack (map pack_values (rows_under v r).pack)
rises_pack v r = ascending-map (λ (a b : Row). key_order pack a b ≡ Less) pack_values (rows_under v r).pack (packs_rise 1 r.captured.events)

-- ---- children
abbrev IsChildBelow : PackedRow → PackedRow → Type 0
IsChildBelow a b = key_order packed (packed_values a) (packed_values b) ≡ Less

abbrev IsOf : ℕ → PackedRow → Type 0
IsOf event row = row.event ≡ pos event

abbrev IsOfLater : ℕ → PackedRow → Type 0
IsOfLater event row = (n : ℕ) × (event < n) × IsOf n row

list_rises : (event : ℕ) (texts : List (List ℕ)) → IsAscending IsChildBelow (map (packed_row event) (enumerate_from 0 texts))
list_rises event texts =
    let places = enumerate_from 0 texts in
    ascending-map IsChildBelow (packed_row event) places (ascending_weaker (λ (a b : ℕ × List ℕ). nat_cmp a.0 b.0 ≡ Less) (λ a b. IsChildBelow (packed_row event a) (packed_row event b)) (λ a b low.
    first_ties (value_cmp (Int (pos event)) (Int (pos event))) _ (value_ties (pos event) (pos event) event refl refl) (by_number a.0 b.0 ∙ low)) places (places_rise 0 texts))

list_is_of : (event : ℕ) (texts : List (List ℕ)) → AllByRecursion (IsOf event) (map (packed_row event) (enumerate_from 0 texts))
list_is_of event texts = all-map (IsOf event) (packed_row event) (enumerate_from 0 texts) (all_of (λ p. IsOf event (packed_row event p)) (λ p. refl) (enumerate_from 0 texts))

body_rises : (event : ℕ) (body : Body) → IsAscending IsChildBelow (packed_rows event body)
body_rises event (Note items) = tt
body_rises event (Ship items to outside) = tt
body_rises event (Make id ins outs) = tt
body_rises event (Pack action parent children) = list_rises event children

body_is_of : (event : ℕ) (body : Body) → AllByRecursion (IsOf event) (packed_rows event body)
body_is_of event (Note items) = tt
body_is_of event (Ship items to outside) = tt
body_is_of event (Make id ins outs) = tt
body_is_of event (Pack action parent children) = list_is_of event children

children_later : (event n : ℕ) (es : List Content) → event < n → AllByRecursion (IsOfLater event) (flat_map children_of (enumerate_from n es))
children_later event n [] low = tt
children_later event n (e ∷ es) low =
    all-append (IsOfLater event) (packed_rows n e.body) (flat_map children_of (enumerate_from (n + 1) es))
    (all_weaker (IsOf n) (IsOfLater event) (λ row is. (n, low, is)) (packed_rows n e.body) (body_is_of n e.body))
    (children_later event (n + 1) es (omega (arith, low)))

below : (event : ℕ) (a b : PackedRow) → IsOf event a → IsOfLater event b → IsChildBelow a b
below event a b is later = first_below (value_cmp (Int a.event) (Int b.event)) _ (value_below a.event b.event event later.0 is later.2 later.1)

children_rise : (n : ℕ) (es : List Content) → IsAscending IsChildBelow (flat_map children_of (enumerate_from n es))
children_rise n [] = tt
children_rise n (e ∷ es) =
    let here = packed_rows n e.body in
    let rest = flat_map children_of (enumerate_from (n + 1) es) in
    let later = children_later n (n + 1) es (omega arith) in
    ascending-append IsChildBelow here rest (body_rises n e.body) (children_rise (n + 1) es)
    (all_weaker (IsOf n) (λ x. AllByRecursion (IsChildBelow x) rest) (λ x is. all_weaker (IsOfLater n) (IsChildBelow x) (λ y l. below n x y is l) rest later) here (body_is_of n e.body))

pub rises_packed : (v : Version) (r : Record) → IsStrict packed (map packed_values (rows_under v r).packed)
rises_packed v r = ascending-map (λ (a b : Row). key_order packed a b ≡ Less) packed_values (rows_under v r).packed (children_rise 1 r.captured.events)
