-- Why no record is read from the rows of all tables.
use Rattle.std.specs.Prelude.{◌≡◌, ℕ, ⊤, List, [], ◌∷◌, ◌++◌, length, map}
use Rattle.std.specs.List.{AllByRecursion}
use Rattle.site_rows.specs.BadAddresses.{IsFirstBadAddress}
use Rattle.site_rows.specs.BadEvents.{IsFirstBadEvent}
use Rattle.site_rows.specs.BadParts.{IsPackTable, IsPackedTable, IsPartTable, site_of_row}
use Rattle.site_rows.specs.BadRows.{IsFirstBad, IsStoreTable, IsSiteTable, IsQuarantineTable, IsOutboxTable, IsSeenTable, IsParentTable, IsRecallTable}
use Rattle.site_rows.specs.RecordRows.{kinds_under}
use Rattle.site_rows.specs.declared.reading.StateFault.{StateFault}
use Rattle.site_rows.specs.declared.reading.StateFault.TheVariants as fault
use Rattle.site_rows.specs.declared.tables.Table.{Table}
use Rattle.site_rows.specs.declared.tables.Table.TheVariants.{Store, Site, Address, Event, Part, Pack, Packed, Quarantine, Outbox, Seen, Parent, Recall}
use Rattle.site_rows.specs.declared.reading_entries.TableFault.{TableFault}
use Rattle.site_rows.specs.declared.reading_entries.TableFault.TheVariants.{NoMemory, BadRow}
use Rattle.site_rows.specs.declared.rows.Rows.{Rows}

-- the row at a place, from 1, is the first bad one of its table
abbrev pub IsBadRow : Rows → Table → ℕ → Type 0
IsBadRow rows Store place = IsFirstBad (IsStoreTable rows.version rows.site) rows.store place
IsBadRow rows Site place = IsFirstBad IsSiteTable rows.site place
IsBadRow rows Address place = IsFirstBadAddress (length rows.site) rows.address place
IsBadRow rows Event place = IsFirstBadEvent (kinds_under rows.version) rows.event place
IsBadRow rows Part place = IsFirstBad (IsPartTable (map site_of_row rows.site) rows.event) rows.part place
IsBadRow rows Pack place = IsFirstBad (IsPackTable (length rows.site) rows.event) rows.pack place
IsBadRow rows Packed place = IsFirstBad (IsPackedTable (length rows.site) rows.event) rows.packed place
IsBadRow rows Quarantine place = IsFirstBad (IsQuarantineTable (length rows.site)) rows.quarantine place
IsBadRow rows Outbox place = IsFirstBad (IsOutboxTable (length rows.site)) rows.outbox place
IsBadRow rows Seen place = IsFirstBad (IsSeenTable (length rows.site)) rows.seen place
IsBadRow rows Parent place = IsFirstBad (IsParentTable (length rows.site)) rows.parent place
IsBadRow rows Recall place = IsFirstBad IsRecallTable rows.recall place

-- the table has no bad row, and none is missing
abbrev pub HasNoBadRow : Rows → Table → Type 0
HasNoBadRow rows table = (place : ℕ) → IsBadRow rows table place → ⊥

-- so it is with each of these tables
abbrev pub HaveNoBadRow : Rows → List Table → Type 0
HaveNoBadRow rows tables = AllByRecursion (HasNoBadRow rows) tables

-- the tables in the order in which they are read
abbrev pub tables_in_order : List Table
tables_in_order = Store ∷ Site ∷ Address ∷ Event ∷ Part ∷ Pack ∷ Packed ∷ Quarantine ∷ Outbox ∷ Seen ∷ Parent ∷ Recall ∷ []

-- the tables in their order are some without a bad row, then this one, and others
abbrev pub AreGoodBefore : Rows → Table → Type 0
AreGoodBefore rows table = (good others : List Table) × (tables_in_order ≡ good ++ table ∷ others) × HaveNoBadRow rows good

-- a bad row is the first one of the first table that has one, and memory may always run out
abbrev pub IsStateFault : Rows → StateFault → Type 0
IsStateFault rows fault.NoMemory = ⊤
IsStateFault rows (fault.BadRow bad) = AreGoodBefore rows bad.table × IsBadRow rows bad.table bad.row

-- the fault of a table, with the table
abbrev pub IsFaultIn : Table → TableFault → StateFault → Type 0
IsFaultIn table NoMemory f = f ≡ fault.NoMemory
IsFaultIn table (BadRow place) f = f ≡ fault.BadRow (record { table = table; row = place })
