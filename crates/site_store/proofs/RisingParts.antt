-- The rows of the lists of events rise by event, role and place.
use Rattle.std.proofs.Common.{◌≡◌, ℕ, ℤ, ◌+◌, ◌<◌, pos, List, [], ◌∷◌, ◌++◌, map, flat_map, refl, ap, ap₂, ◌∙◌, arith}
use Rattle.std.specs.List.{AllByRecursion, enumerate_from}
use Rattle.std.specs.Ordering.{nat_cmp, ordering_then}
use Rattle.std.specs.declared.cmp.Ordering.{Ordering}
use Rattle.std.specs.declared.cmp.Ordering.TheVariants.{Less, Equal}
use Rattle.std.proofs.lemmas.Cmp.{nat_cmp_total, tied_itself}
use Rattle.sqlite.specs.Order.{Row}
use Rattle.sqlite.specs.declared.types.Value.TheVariants.{Int}
use Rattle.sqlite_value.specs.Order.{value_cmp}
use Rattle.sqlite_trees.specs.Tree.{IsAscending}
use Rattle.sqlite_trees.proofs.ListLemmas.{all_of, all_weaker, all-append, all-map, ascending-append, ascending-map, ascending_weaker}
use Rattle.event_json.specs.Events.{Content}
use Rattle.event_json.specs.Sites.{Site}
use Rattle.event_json.specs.declared.bodies.Body.{Body}
use Rattle.event_json.specs.declared.bodies.Body.TheVariants.{Note, Ship, Make, Pack}
use Rattle.site_core.specs.Records.{Record}
use Rattle.site_rows.specs.RecordRows.{body_rows, name_of, part_row, part_rows, parts_of, rows_under}
use Rattle.site_rows.specs.declared.tables.Version.{Version}
use Rattle.site_rows.specs.declared.rows.PartRow.{PartRow}
use Rattle.site_tables.specs.Reads.{IsStrict, key_order}
use Rattle.site_tables.specs.Tables.{part}
use Rattle.site_tables.specs.Values.{part_values}
use Rattle.site_store.proofs.RisingRows.{by_number, nat_below, numbers_alike, places_rise}

abbrev IsBelow : PartRow → PartRow → Type 0
IsBelow a b = key_order part (part_values a) (part_values b) ≡ Less

-- of an event, of a later one, and of an earlier list of the same
abbrev IsOf : ℕ → PartRow → Type 0
IsOf event row = row.event ≡ pos event

abbrev IsLater : ℕ → PartRow → Type 0
IsLater event row = (n : ℕ) × (event < n) × IsOf n row

abbrev IsOfList : ℕ → ℕ → PartRow → Type 0
IsOfList event role row = IsOf event row × (row.role ≡ pos role)

abbrev IsOfEarlier : ℕ → ℕ → PartRow → Type 0
IsOfEarlier event role row = (r : ℕ) × (r < role) × IsOfList event r row

-- ---- one row and another
pub first_below : (r s : Ordering) → r ≡ Less → ordering_then r s ≡ Less
first_below r s low = ap (λ z. ordering_then z s) low

pub first_ties : (r s : Ordering) → r ≡ Equal → s ≡ Less → ordering_then r s ≡ Less
first_ties r s tie low = ap (λ z. ordering_then z s) tie ∙ low

pub value_below : (a b : ℤ) (m n : ℕ) → a ≡ pos m → b ≡ pos n → m < n → value_cmp (Int a) (Int b) ≡ Less
value_below a b m n x y low = ap₂ (λ s t. value_cmp (Int s) (Int t)) x y ∙ numbers_alike m n ∙ nat_below m n low

pub value_ties : (a b : ℤ) (n : ℕ) → a ≡ pos n → b ≡ pos n → value_cmp (Int a) (Int b) ≡ Equal
value_ties a b n x y = ap₂ (λ s t. value_cmp (Int s) (Int t)) x y ∙ numbers_alike n n ∙ tied_itself nat_cmp_total n

events_rise : (event : ℕ) (a b : PartRow) → IsOf event a → IsLater event b → IsBelow a b
events_rise event a b is later = first_below (value_cmp (Int a.event) (Int b.event)) _ (value_below a.event b.event event later.0 is later.2 later.1)

roles_rise : (event role : ℕ) (a b : PartRow) → IsOfEarlier event role a → IsOfList event role b → IsBelow a b
roles_rise event role a b early is =
    first_ties (value_cmp (Int a.event) (Int b.event)) _ (value_ties a.event b.event event early.2.0 is.0)
    (first_below (value_cmp (Int a.role) (Int b.role)) _ (value_below a.role b.role early.0 role early.2.1 is.1 early.1))

-- ---- one list behind another
joined : (P Q : PartRow → Type 0) → ((a b : PartRow) → P a → Q b → IsBelow a b) → (xs ys : List PartRow) → AllByRecursion P xs → AllByRecursion Q ys → IsAscending IsBelow xs → IsAscending IsBelow ys → IsAscending IsBelow (xs ++ ys)
joined P Q below xs ys ps qs up more =
    ascending-append IsBelow xs ys up more (all_weaker P (λ x. AllByRecursion (IsBelow x) ys) (λ x p. all_weaker Q (IsBelow x) (λ y q. below x y p q) ys qs) xs ps)

of_list : (P : PartRow → Type 0) (event role : ℕ) (texts : List (List ℕ)) → ((p : ℕ × List ℕ) → P (part_row event role p)) → AllByRecursion P (part_rows event role texts)
of_list P event role texts each = all-map P (part_row event role) (enumerate_from 0 texts) (all_of (λ p. P (part_row event role p)) each (enumerate_from 0 texts))

list_rises : (event role : ℕ) (texts : List (List ℕ)) → IsAscending IsBelow (part_rows event role texts)
list_rises event role texts =
    let places = enumerate_from 0 texts in
    ascending-map IsBelow (part_row event role) places (ascending_weaker (λ (a b : ℕ × List ℕ). nat_cmp a.0 b.0 ≡ Less) (λ a b. IsBelow (part_row event role a) (part_row event role b)) (λ a b low.
    first_ties (value_cmp (Int (pos event)) (Int (pos event))) _ (value_ties (pos event) (pos event) event refl refl)
    (first_ties (value_cmp (Int (pos role)) (Int (pos role))) _ (value_ties (pos role) (pos role) role refl refl)
    (by_number a.0 b.0 ∙ low))) places (places_rise 0 texts))

earlier : (event r role : ℕ) (texts : List (List ℕ)) → r < role → AllByRecursion (IsOfEarlier event role) (part_rows event r texts)
earlier event r role texts low = of_list (IsOfEarlier event role) event r texts (λ p. (r, low, (refl, refl)))

is_of : (event role : ℕ) (texts : List (List ℕ)) → AllByRecursion (IsOf event) (part_rows event role texts)
is_of event role texts = of_list (IsOf event) event role texts (λ p. refl)

-- the next list of an event
one_more : (event role : ℕ) (rows : List PartRow) (texts : List (List ℕ)) → AllByRecursion (IsOfEarlier event role) rows → IsAscending IsBelow rows → IsAscending IsBelow (rows ++ part_rows event role texts)
one_more event role rows texts early up =
    joined (IsOfEarlier event role) (IsOfList event role) (roles_rise event role) rows (part_rows event role texts) early (of_list (IsOfList event role) event role texts (λ p. (refl, refl))) up (list_rises event role texts)

-- ---- all lists of an event, and those of all events
module _ (sites : List Site) where
  body_rises : (event : ℕ) (body : Body) → IsAscending IsBelow (body_rows sites event body)
  body_rises event (Note items) = list_rises event 0 items
  body_rises event (Ship items to outside) =
      let names = map (name_of sites) to in
      let front = part_rows event 0 items in
      let middle = part_rows event 1 names in
      one_more event 2 (front ++ middle) outside
      (all-append (IsOfEarlier event 2) front middle (earlier event 0 2 items (omega arith)) (earlier event 1 2 names (omega arith)))
      (one_more event 1 front names (earlier event 0 1 items (omega arith)) (list_rises event 0 items))
  body_rises event (Make id ins outs) = one_more event 4 (part_rows event 3 ins) outs (earlier event 3 4 ins (omega arith)) (list_rises event 3 ins)
  body_rises event (Pack action parent children) = tt

  body_is_of : (event : ℕ) (body : Body) → AllByRecursion (IsOf event) (body_rows sites event body)
  body_is_of event (Note items) = is_of event 0 items
  body_is_of event (Ship items to outside) =
      let names = map (name_of sites) to in
      let front = part_rows event 0 items in
      let middle = part_rows event 1 names in
      all-append (IsOf event) (front ++ middle) (part_rows event 2 outside) (all-append (IsOf event) front middle (is_of event 0 items) (is_of event 1 names)) (is_of event 2 outside)
  body_is_of event (Make id ins outs) = all-append (IsOf event) (part_rows event 3 ins) (part_rows event 4 outs) (is_of event 3 ins) (is_of event 4 outs)
  body_is_of event (Pack action parent children) = tt

  later : (event n : ℕ) (es : List Content) → event < n → AllByRecursion (IsLater event) (flat_map (parts_of sites) (enumerate_from n es))
  later event n [] low = tt
  later event n (e ∷ es) low =
      all-append (IsLater event) (body_rows sites n e.body) (flat_map (parts_of sites) (enumerate_from (n + 1) es))
      (all_weaker (IsOf n) (IsLater event) (λ row is. (n, low, is)) (body_rows sites n e.body) (body_is_of n e.body))
      (later event (n + 1) es (omega (arith, low)))

  parts_rise : (n : ℕ) (es : List Content) → IsAscending IsBelow (flat_map (parts_of sites) (enumerate_from n es))
  parts_rise n [] = tt
  parts_rise n (e ∷ es) =
      joined (IsOf n) (IsLater n) (events_rise n) (body_rows sites n e.body) (flat_map (parts_of sites) (enumerate_from (n + 1) es))
      (body_is_of n e.body) (later n (n + 1) es (omega arith)) (body_rises n e.body) (parts_rise (n + 1) es)

pub rises_part : (v : Version) (r : Record) → IsStrict part (map part_values (rows_under v r).part)
rises_part v r = ascending-map (λ (a b : Row). key_order part a b ≡ Less) part_values (rows_under v r).part (parts_rise r.sites 1 r.captured.events)
