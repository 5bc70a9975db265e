-- The faults of tables among those of all tables.
use Rattle.std.proofs.Common.{◌≡◌, ℕ, suc, zero, ◌+◌, ◌≤◌, List, [], ◌∷◌, ◌++◌, length, map, refl, sym, ap, subst, ◌∙◌, arith}
use Rattle.std.specs.List.{enumerate_from}
use Rattle.event_json.specs.Sites.{Site}
use Rattle.event_json.specs.declared.bodies.Body.{Body}
use Rattle.event_json.specs.declared.bodies.Body.TheVariants.{Note, Ship, Make, Pack as PackBody}
use Rattle.site_rows.specs.BadAddresses.{IsAddressFault, IsFirstBadAddress}
use Rattle.site_rows.specs.BadEvents.{IsEventFault, IsFirstBadEvent}
use Rattle.site_rows.specs.BadParts.{AreBodies, IsPackTable, IsPackedTable, IsPartTable, all_body_rows, site_of_row}
use Rattle.site_rows.specs.BadRows.{IsFaultOf, IsFirstBad, IsQuarantineTable}
use Rattle.site_rows.specs.ReadRows.{AreGoodBefore, IsBadRow, IsStateFault, IsFaultIn}
use Rattle.site_rows.specs.RecordRows.{body_rows, kinds_under, name_of, part_rows, site_row}
use Rattle.site_rows.specs.PartsInTurn.{IsFaultOfLists, IsListsFault}
use Rattle.site_rows.specs.declared.reading.StateFault.{StateFault}
use Rattle.site_rows.specs.declared.reading.StateFault.TheVariants.{NoMemory as NoMemory_left, BadRow as BadRow_of}
use Rattle.site_rows.specs.declared.tables.Table.{Table}
use Rattle.site_rows.specs.declared.tables.Table.TheVariants.{Store, Site as SiteTable, Address, Event, Part, Pack, Packed, Quarantine, Outbox, Seen, Parent, Recall}
use Rattle.site_rows.specs.declared.tables.Version.{Version}
use Rattle.site_rows.specs.declared.tables.Version.TheVariants.{First, Second}
use Rattle.site_rows.specs.declared.reading_entries.TableFault.{TableFault}
use Rattle.site_rows.specs.declared.reading_entries.TableFault.TheVariants.{NoMemory, BadRow}
use Rattle.site_rows.specs.declared.rows.AddressRow.{AddressRow}
use Rattle.site_rows.specs.declared.rows.EventRow.{EventRow}
use Rattle.site_rows.specs.declared.rows.PartRow.{PartRow}
use Rattle.site_rows.specs.declared.rows.QuarantineRow.{QuarantineRow}
use Rattle.site_rows.specs.declared.rows.Rows.{Rows}
use Rattle.site_rows.specs.declared.rows.SiteRow.{SiteRow}

pub sizes : (n : ℕ) (sites : List Site) → length (map site_row (enumerate_from n sites)) ≡ length sites
sizes n [] = refl
sizes n (s ∷ sites) = ap suc (sizes (n + 1) sites)

-- there are as many sites as rows of sites
pub as_many_sites : (sites : List Site) (rows : List SiteRow) → rows ≡ map site_row (enumerate_from 0 sites) → length sites ≡ length rows
as_many_sites sites rows is = sym (sizes 0 sites) ∙ ap length (sym is)

-- a table's fault, where no table before it has a bad row
pub table_fault : {R : Type 0} (rows : Rows) (table : Table) (Stand : List R → Type 0) (xs ys : List R) (f : TableFault) (r : StateFault) → xs ≡ ys
    → ((place : ℕ) → IsFirstBad Stand ys place → IsBadRow rows table place) → AreGoodBefore rows table → IsFaultOf Stand xs f → IsFaultIn table f r → IsStateFault rows r
table_fault rows table Stand xs ys NoMemory r same here good bad is = subst (IsStateFault rows) (sym is) tt
table_fault rows table Stand xs ys (BadRow place) r same here good bad is = subst (IsStateFault rows) (sym is) (good, here place (subst (λ t. IsFirstBad Stand t place) same bad))

pub few_kinds : (v : Version) (kinds : ℕ) → kinds ≡ kinds_under v → kinds ≤ 4
few_kinds First kinds is = omega (arith, is)
few_kinds Second kinds is = omega (arith, is)

pub event_fault : (rows : Rows) (kinds : ℕ) (table : List EventRow) (f : TableFault) (r : StateFault) → kinds ≡ kinds_under rows.version → table ≡ rows.event → AreGoodBefore rows Event
    → IsEventFault kinds table f → IsFaultIn Event f r → IsStateFault rows r
event_fault rows kinds table NoMemory r many same good bad is = subst (IsStateFault rows) (sym is) tt
event_fault rows kinds table (BadRow place) r many same good bad is =
    subst (IsStateFault rows) (sym is) (good, subst (λ t. IsFirstBadEvent (kinds_under rows.version) t place) same (subst (λ n. IsFirstBadEvent n table place) many bad))

pub address_fault : (rows : Rows) (n : ℕ) (table : List AddressRow) (f : TableFault) (r : StateFault) → n ≡ length rows.site → table ≡ rows.address
    → AreGoodBefore rows Address → IsAddressFault n table f → IsFaultIn Address f r → IsStateFault rows r
address_fault rows n table NoMemory r size same good bad is = subst (IsStateFault rows) (sym is) tt
address_fault rows n table (BadRow place) r size same good bad is =
    let here = subst (λ k. IsFirstBadAddress k table place) size bad in
    subst (IsStateFault rows) (sym is) (good, subst (λ t. IsFirstBadAddress (length rows.site) t place) same here)

pub quarantine_fault : (rows : Rows) (n : ℕ) (table : List QuarantineRow) (f : TableFault) (r : StateFault) → n ≡ length rows.site → table ≡ rows.quarantine
    → AreGoodBefore rows Quarantine → IsFaultOf (IsQuarantineTable n) table f → IsFaultIn Quarantine f r → IsStateFault rows r
quarantine_fault rows n table NoMemory r size same good bad is = subst (IsStateFault rows) (sym is) tt
quarantine_fault rows n table (BadRow place) r size same good bad is =
    let here = subst (λ k. IsFirstBad (IsQuarantineTable k) table place) size bad in
    subst (IsStateFault rows) (sym is) (good, subst (λ t. IsFirstBad (IsQuarantineTable (length rows.site)) t place) same here)

-- the rows of sites have their names
pub names_of_rows : (n : ℕ) (sites : List Site) (t : ℕ) → name_of (map site_of_row (map site_row (enumerate_from n sites))) t ≡ name_of sites t
names_of_rows n [] t = refl
names_of_rows n (s ∷ sites) zero = refl
names_of_rows n (s ∷ sites) (suc t) = names_of_rows (n + 1) sites t

pub sites_of_rows : (n : ℕ) (sites : List Site) → length (map site_of_row (map site_row (enumerate_from n sites))) ≡ length sites
sites_of_rows n [] = refl
sites_of_rows n (s ∷ sites) = ap suc (sites_of_rows (n + 1) sites)

-- and the lists of events say no more of them
module _ (sites others : List Site) (alike : (t : ℕ) → name_of sites t ≡ name_of others t) (size : length sites ≡ length others) where
  names_alike : (to : List ℕ) → map (name_of sites) to ≡ map (name_of others) to
  names_alike [] = refl
  names_alike (t ∷ to) = let one = alike t in let rest = names_alike to in λ i. one i ∷ rest i

  rows_alike : (event : ℕ) (body : Body) → body_rows sites event body ≡ body_rows others event body
  rows_alike event (Note items) = refl
  rows_alike event (Ship items to outside) = ap (λ names. (part_rows event 0 items ++ part_rows event 1 names) ++ part_rows event 2 outside) (names_alike to)
  rows_alike event (Make id ins outs) = refl
  rows_alike event (PackBody action parent children) = refl

  all_rows_alike : (n : ℕ) (bodies : List Body) → all_body_rows sites n bodies ≡ all_body_rows others n bodies
  all_rows_alike n [] = refl
  all_rows_alike n (b ∷ bodies) = let one = rows_alike n b in let rest = all_rows_alike (n + 1) bodies in λ i. one i ++ rest i

  pub table_alike : (events : List EventRow) (rows : List PartRow) → IsPartTable sites events rows → IsPartTable others events rows
  table_alike events rows table = record {
    bodies = table.bodies;
    each = subst (λ n. AreBodies n events table.bodies) size table.each;
    listed = table.listed ∙ all_rows_alike 1 table.bodies;
  }

-- the first bad row is the same by two definitions that say the same
first_bad_alike : {R : Type 0} (One Two : List R → Type 0) (rows : List R) (place : ℕ) → ((xs : List R) → One xs → Two xs) → ((xs : List R) → Two xs → One xs) → IsFirstBad One rows place → IsFirstBad Two rows place
first_bad_alike One Two rows place to from bad = record {
  before = bad.before;
  next = bad.next;
  good = λ some. let b = bad.good some in record { more = b.more; stand = to _ b.stand };
  bad = λ low b. bad.bad low (record { more = b.more; stand = from _ b.stand });
  wanting = λ past. ((bad.wanting past).0, λ stand. (bad.wanting past).1 (from rows stand));
}

part_fault : (rows : Rows) (sites : List Site) (place : ℕ) → rows.site ≡ map site_row (enumerate_from 0 sites) → IsFirstBad (IsPartTable sites rows.event) rows.part place → IsBadRow rows Part place
part_fault rows sites place named bad =
    let read : List Site = map site_of_row (map site_row (enumerate_from 0 sites)) in
    let names = names_of_rows 0 sites in
    let size = sites_of_rows 0 sites in
    let of_rows : IsFirstBad (IsPartTable read rows.event) rows.part place =
    first_bad_alike (IsPartTable sites rows.event) (IsPartTable read rows.event) rows.part place (table_alike sites read (λ t. sym (names t)) (sym size) rows.event) (table_alike read sites names size rows.event) bad in
    subst (λ xs. IsFirstBad (IsPartTable (map site_of_row xs) rows.event) rows.part place) (sym named) of_rows

-- the fault of the tables of lists, where no table before them has a bad row
pub lists_fault : (rows : Rows) (sites : List Site) (f : StateFault) → rows.site ≡ map site_row (enumerate_from 0 sites) → AreGoodBefore rows Part
    → (IsPartTable sites rows.event rows.part → AreGoodBefore rows Pack)
    → (IsPartTable sites rows.event rows.part → IsPackTable (length sites) rows.event rows.pack → AreGoodBefore rows Packed)
    → IsFaultOfLists sites rows.event rows.part rows.pack rows.packed f → IsStateFault rows f
lists_fault rows sites NoMemory_left named part pack packed bad = tt
lists_fault rows sites (BadRow_of b) named part pack packed bad = of_table b.table b.row bad
  where
    of_table : (table : Table) (place : ℕ) → IsListsFault sites rows.event rows.part rows.pack rows.packed table place → AreGoodBefore rows table × IsBadRow rows table place
    of_table Part place bad = (part, part_fault rows sites place named bad)
    of_table Pack place bad = (pack bad.0, subst (λ n. IsFirstBad (IsPackTable n rows.event) rows.pack place) (as_many_sites sites rows.site named) bad.1)
    of_table Packed place bad = (packed bad.0 bad.1, subst (λ n. IsFirstBad (IsPackedTable n rows.event) rows.packed place) (as_many_sites sites rows.site named) bad.2)
    of_table Store place bad = absurd bad
    of_table SiteTable place bad = absurd bad
    of_table Address place bad = absurd bad
    of_table Event place bad = absurd bad
    of_table Quarantine place bad = absurd bad
    of_table Outbox place bad = absurd bad
    of_table Seen place bad = absurd bad
    of_table Parent place bad = absurd bad
    of_table Recall place bad = absurd bad
