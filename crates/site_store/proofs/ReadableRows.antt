-- The rows of a record rise by the keys of their tables.
use Rattle.site_core.specs.Records.{Record}
use Rattle.site_rows.specs.RecordRows.{rows_under}
use Rattle.site_rows.specs.declared.tables.Table.TheVariants.{Store, Site, Address, Event, Part, Pack, Packed, Quarantine, Outbox, Seen, Parent, Recall}
use Rattle.site_rows.specs.declared.tables.Version.{Version}
use Rattle.site_tables.specs.Stored.{contents_of}
use Rattle.site_store.specs.Openings.{RowsRise}
use Rattle.site_store.proofs.RisingPacks.{rises_pack, rises_packed}
use Rattle.site_store.proofs.RisingParts.{rises_part}
use Rattle.site_store.proofs.RisingRows.{rises_address, rises_event, rises_outbox, rises_parent, rises_quarantine, rises_recall, rises_seen, rises_site, rises_store}

pub rows_rise : (v : Version) (r : Record) → RowsRise (contents_of (rows_under v r))
rows_rise v r Store = rises_store v r
rows_rise v r Site = rises_site v r
rows_rise v r Address = rises_address v r
rows_rise v r Event = rises_event v r
rows_rise v r Part = rises_part v r
rows_rise v r Pack = rises_pack v r
rows_rise v r Packed = rises_packed v r
rows_rise v r Quarantine = rises_quarantine v r
rows_rise v r Outbox = rises_outbox v r
rows_rise v r Seen = rises_seen v r
rows_rise v r Parent = rises_parent v r
rows_rise v r Recall = rises_recall v r
