-- The rows of the code as rows of the database.
use Rattle.std.specs.Prelude.{List, ℤ, [], ◌∷◌, pos}
use Rattle.sqlite.specs.Values.{or_null}
use Rattle.sqlite.specs.declared.types.Value.TheVariants.{Int, Text}
use Rattle.sqlite.specs.Order.{Row}
use Rattle.sqlite_value.specs.Order.{column}
use Rattle.sqlite.specs.Kind.TheVariants.{Integer}
use Rattle.sqlite_rules.specs.Cast.{cast}
use Rattle.site_rows.specs.declared.changes.Numbers.{Numbers}
use Rattle.site_rows.specs.declared.changes.RecallKey.{RecallKey}
use Rattle.site_rows.specs.declared.rows.StoreRow.{StoreRow}
use Rattle.site_rows.specs.declared.rows.SiteRow.{SiteRow}
use Rattle.site_rows.specs.declared.rows.AddressRow.{AddressRow}
use Rattle.site_rows.specs.declared.rows.EventRow.{EventRow}
use Rattle.site_rows.specs.declared.rows.PartRow.{PartRow}
use Rattle.site_rows.specs.declared.rows.PackRow.{PackRow}
use Rattle.site_rows.specs.declared.rows.PackedRow.{PackedRow}
use Rattle.site_rows.specs.declared.rows.QuarantineRow.{QuarantineRow}
use Rattle.site_rows.specs.declared.rows.OutboxRow.{OutboxRow}
use Rattle.site_rows.specs.declared.rows.SeenRow.{SeenRow}
use Rattle.site_rows.specs.declared.rows.ParentRow.{ParentRow}
use Rattle.site_rows.specs.declared.rows.RecallRow.{RecallRow}
use Rattle.site_rows.specs.declared.rows.Rows.{Rows}
use Rattle.site_rows.specs.declared.tables.Table.{«Table» as SiteTable}
use Rattle.site_rows.specs.declared.tables.Table.TheVariants.{Store, Site, Address, Event, Part, Pack, Packed, Quarantine, Outbox, Seen, Parent, Recall}

abbrev pub store_values : StoreRow → Row
store_values r = Int (pos 1) ∷ Int r.version ∷ Int r.me ∷ Int r.next_message ∷ Int r.next_recall ∷ []

abbrev pub site_values : SiteRow → Row
site_values r = Int r.no ∷ Text r.name ∷ []

abbrev pub address_values : AddressRow → Row
address_values r = Text r.text ∷ Int r.site ∷ Int r.place ∷ []

abbrev pub event_values : EventRow → Row
event_values r = Int r.no ∷ or_null Text r.id ∷ Int r.seconds ∷ Int r.nanos ∷ Int r.kind ∷ or_null Text r.make_id ∷ []

abbrev pub part_values : PartRow → Row
part_values r = Int r.event ∷ Int r.role ∷ Int r.place ∷ Text r.text ∷ []

abbrev pub pack_values : PackRow → Row
pack_values r = Int r.event ∷ Int r.action ∷ or_null Text r.parent ∷ []

abbrev pub packed_values : PackedRow → Row
packed_values r = Int r.event ∷ Int r.place ∷ Text r.text ∷ []

abbrev pub quarantine_values : QuarantineRow → Row
quarantine_values r = Int r.recall_site ∷ Int r.recall_no ∷ Text r.item ∷ []

abbrev pub outbox_values : OutboxRow → Row
outbox_values r = Int r.number ∷ Int r.dest ∷ Int r.recall_site ∷ Int r.recall_no ∷ Text r.item ∷ []

abbrev pub seen_values : SeenRow → Row
seen_values r = Int r.sender ∷ Int r.number ∷ Int r.recall_site ∷ Int r.recall_no ∷ []

abbrev pub parent_values : ParentRow → Row
parent_values r = Int r.recall_site ∷ Int r.recall_no ∷ Int r.sender ∷ Int r.number ∷ []

abbrev pub recall_values : RecallRow → Row
recall_values r = Int r.number ∷ Text r.root ∷ Int r.ended ∷ []

-- ---- by the table

-- the code's row of a table
abbrev pub RowOf : SiteTable → Type 0
RowOf Store = StoreRow
RowOf Site = SiteRow
RowOf Address = AddressRow
RowOf Event = EventRow
RowOf Part = PartRow
RowOf Pack = PackRow
RowOf Packed = PackedRow
RowOf Quarantine = QuarantineRow
RowOf Outbox = OutboxRow
RowOf Seen = SeenRow
RowOf Parent = ParentRow
RowOf Recall = RecallRow

-- it as the database's
abbrev pub values_of : (t : SiteTable) → RowOf t → Row
values_of Store = store_values
values_of Site = site_values
values_of Address = address_values
values_of Event = event_values
values_of Part = part_values
values_of Pack = pack_values
values_of Packed = packed_values
values_of Quarantine = quarantine_values
values_of Outbox = outbox_values
values_of Seen = seen_values
values_of Parent = parent_values
values_of Recall = recall_values

-- the rows of one table
abbrev pub rows_in : Rows → (t : SiteTable) → List (RowOf t)
rows_in rows Store = rows.store
rows_in rows Site = rows.site
rows_in rows Address = rows.address
rows_in rows Event = rows.event
rows_in rows Part = rows.part
rows_in rows Pack = rows.pack
rows_in rows Packed = rows.packed
rows_in rows Quarantine = rows.quarantine
rows_in rows Outbox = rows.outbox
rows_in rows Seen = rows.seen
rows_in rows Parent = rows.parent
rows_in rows Recall = rows.recall

-- ---- what changes of them

-- the key of the parent of a recall
abbrev pub recall_key : RecallKey → Row
recall_key k = Int k.site ∷ Int k.number ∷ []

-- a row of `store` with new next numbers: SQL casts what it writes to an integer, which leaves an integer as it is
abbrev pub sets_numbers : Numbers → Row → Row
sets_numbers n row = cast Integer (column row 0) ∷ cast Integer (column row 1) ∷ cast Integer (column row 2) ∷ Int n.next_message ∷ Int n.next_recall ∷ []

-- a row of the site with another version, as SQL writes it
abbrev pub sets_version : ℤ → Row → Row
sets_version version row = cast Integer (column row 0) ∷ Int version ∷ cast Integer (column row 2) ∷ cast Integer (column row 3) ∷ cast Integer (column row 4) ∷ []
