-- The rows of a record: what each table of a site's file holds of what the site keeps. Items stand as their keys, sites
-- as their numbers, and each table's rows ascend by its key.
use Rattle.std.specs.Prelude.{◌≡◌, ℕ, ℤ, pos, ◌++◌, cond, List, [], ◌∷◌, map, flat_map, fold, Option, Some, None, slice_get}
use Rattle.std.specs.Int.{int_div_euclid, int_rem_euclid}
use Rattle.std.specs.List.{enumerate_from}
use Rattle.std.specs.FinMap as finite
use Rattle.event_json.specs.Contents.{kind_of, id_of, number_of}
use Rattle.event_json.specs.Events.{Content}
use Rattle.event_json.specs.Sites.{Site}
use Rattle.event_json.specs.declared.bodies.Body.{Body}
use Rattle.event_json.specs.declared.bodies.Body.TheVariants.{Note, Ship, Make, Pack}
use Rattle.frame_core.specs.Numbers.{Recall, Message}
use Rattle.frame_core.specs.declared.rows.Row.{Row}
use Rattle.scholten_core.specs.declared.own_recalls.Own.{Own}
use Rattle.site_core.specs.ItemSets as set
use Rattle.site_core.specs.Quarantines.{Items}
use Rattle.site_core.specs.Records.{Record}
use Rattle.site_rows.specs.Texts.{text_cmp}
use Rattle.site_rows.specs.declared.address_rows.Address.{Address}
use Rattle.site_rows.specs.declared.tables.Version.{Version}
use Rattle.site_rows.specs.declared.tables.Version.TheVariants.{First, Second}
use Rattle.site_rows.specs.declared.rows.StoreRow.{StoreRow}
use Rattle.site_rows.specs.declared.rows.SiteRow.{SiteRow}
use Rattle.site_rows.specs.declared.rows.AddressRow.{AddressRow}
use Rattle.site_rows.specs.declared.rows.EventRow.{EventRow}
use Rattle.site_rows.specs.declared.rows.PartRow.{PartRow}
use Rattle.site_rows.specs.declared.rows.PackRow.{PackRow}
use Rattle.site_rows.specs.declared.rows.PackedRow.{PackedRow}
use Rattle.site_rows.specs.declared.rows.QuarantineRow.{QuarantineRow}
use Rattle.site_rows.specs.declared.rows.OutboxRow.{OutboxRow}
use Rattle.site_rows.specs.declared.rows.SeenRow.{SeenRow}
use Rattle.site_rows.specs.declared.rows.ParentRow.{ParentRow}
use Rattle.site_rows.specs.declared.rows.RecallRow.{RecallRow}
use Rattle.site_rows.specs.declared.rows.Rows.{Rows}

-- the number of a version of the tables
abbrev pub version_number : Version → ℤ
version_number First = pos 1
version_number Second = pos 2

-- there are so many kinds of events: the first version has no tables for packs
abbrev pub kinds_under : Version → ℕ
kinds_under First = 3
kinds_under Second = 4

-- the site's own number and the next numbers, under a version
abbrev pub store_row : Version → Record → StoreRow
store_row v s = record { version = version_number v; me = pos s.engagement.me; next_message = pos s.engagement.next_message; next_recall = pos s.engagement.next_recall }

-- a site at its number
abbrev pub site_row : ℕ × Site → SiteRow
site_row p = record { no = pos p.0; name = p.1.name }

-- the addresses of a site, each with the site and its place there
abbrev pub address_at : ℕ → ℕ × List ℕ → List ℕ × Address
address_at site p = (p.1, record { site = site; place = p.0 })

abbrev pub addresses_from : ℕ → ℕ → List (List ℕ) → List (List ℕ × Address)
addresses_from site place texts = map (address_at site) (enumerate_from place texts)

abbrev pub addresses_at : ℕ × Site → List (List ℕ × Address)
addresses_at p = addresses_from p.0 0 p.1.addresses

-- those of all sites, as a finite map from the text
abbrev pub Addresses : Type 0
Addresses = finite.FinMap text_cmp Address

abbrev pub with_address : Addresses → List ℕ × Address → Addresses
with_address m a = finite.insert m a.0 a.1

abbrev pub addresses_of : List Site → Addresses
addresses_of sites = fold with_address finite.empty (flat_map addresses_at (enumerate_from 0 sites))

abbrev pub address_row : List ℕ × Address → AddressRow
address_row a = record { text = a.0; site = pos a.1.site; place = pos a.1.place }

-- a second has as many nanoseconds
abbrev pub SECOND : ℤ
SECOND = pos 1_000_000_000

-- an event at its number: the seconds of its instant by the floor, and the nanoseconds that are left
abbrev pub event_row : ℕ × Content → EventRow
event_row p = record {
  no = pos p.0;
  id = p.1.id;
  seconds = int_div_euclid p.1.instant SECOND;
  nanos = int_rem_euclid p.1.instant SECOND;
  kind = pos (kind_of p.1.body);
  make_id = id_of p.1.body;
}

-- the members of one list of an event, each at its place
abbrev pub part_row : ℕ → ℕ → ℕ × List ℕ → PartRow
part_row event role p = record { event = pos event; role = pos role; place = pos p.0; text = p.1 }

abbrev pub part_rows : ℕ → ℕ → List (List ℕ) → List PartRow
part_rows event role texts = map (part_row event role) (enumerate_from 0 texts)

-- the name of a site
abbrev pub or_no_name : Option Site → List ℕ
or_no_name None = []
or_no_name (Some site) = site.name

abbrev pub name_of : List Site → ℕ → List ℕ
name_of sites t = or_no_name (slice_get sites t)

-- the members of all lists of an event, by role: items, sites shipped to, destinations outside, inputs, outputs
abbrev pub body_rows : List Site → ℕ → Body → List PartRow
body_rows sites event (Note items) = part_rows event 0 items
body_rows sites event (Ship items to outside) = (part_rows event 0 items ++ part_rows event 1 (map (name_of sites) to)) ++ part_rows event 2 outside
body_rows sites event (Make id ins outs) = part_rows event 3 ins ++ part_rows event 4 outs
body_rows sites event (Pack action parent children) = []

abbrev pub parts_of : List Site → ℕ × Content → List PartRow
parts_of sites p = body_rows sites p.0 p.1.body

-- what is said of the children of a pack, and its parent
abbrev pub pack_rows : ℕ → Body → List PackRow
pack_rows event (Note items) = []
pack_rows event (Ship items to outside) = []
pack_rows event (Make id ins outs) = []
pack_rows event (Pack action parent children) = record { event = pos event; action = pos (number_of action); parent = parent } ∷ []

abbrev pub packs_of : ℕ × Content → List PackRow
packs_of p = pack_rows p.0 p.1.body

-- the children of a pack, each at its place
abbrev pub packed_row : ℕ → ℕ × List ℕ → PackedRow
packed_row event p = record { event = pos event; place = pos p.0; text = p.1 }

abbrev pub packed_rows : ℕ → Body → List PackedRow
packed_rows event (Note items) = []
packed_rows event (Ship items to outside) = []
packed_rows event (Make id ins outs) = []
packed_rows event (Pack action parent children) = map (packed_row event) (enumerate_from 0 children)

abbrev pub children_of : ℕ × Content → List PackedRow
children_of p = packed_rows p.0 p.1.body

-- an item under a recall
abbrev pub quarantine_row : Recall → List ℕ → QuarantineRow
quarantine_row r i = record { recall_site = pos r.site; recall_no = pos r.number; item = i }

abbrev pub quarantine_rows : Recall × Items → List QuarantineRow
quarantine_rows e = map (quarantine_row e.0) (set.items e.1)

-- a message that isn't signalled, at its number
abbrev pub outbox_row : ℕ × Row → OutboxRow
outbox_row e = record { number = pos e.0; dest = pos e.1.dest; recall_site = pos e.1.recall.site; recall_no = pos e.1.recall.number; item = e.1.item }

-- a message that was handled, with its recall
abbrev pub seen_row : Message × Recall → SeenRow
seen_row e = record { sender = pos e.0.site; number = pos e.0.number; recall_site = pos e.1.site; recall_no = pos e.1.number }

-- the parent of a recall
abbrev pub parent_row : Recall × Message → ParentRow
parent_row e = record { recall_site = pos e.0.site; recall_no = pos e.0.number; sender = pos e.1.site; number = pos e.1.number }

-- an own recall, at its number
abbrev pub recall_row : ℕ × Own → RecallRow
recall_row e = record { number = pos e.0; root = e.1.root; ended = pos (cond e.1.ended 1 0) }

-- the rows of all tables, under a version
abbrev pub rows_under : Version → Record → Rows
rows_under v s = record {
  version = v;
  store = store_row v s ∷ [];
  site = map site_row (enumerate_from 0 s.sites);
  address = map address_row (finite.entries (addresses_of s.sites));
  event = map event_row (enumerate_from 1 s.captured.events);
  part = flat_map (parts_of s.sites) (enumerate_from 1 s.captured.events);
  pack = flat_map packs_of (enumerate_from 1 s.captured.events);
  packed = flat_map children_of (enumerate_from 1 s.captured.events);
  quarantine = flat_map quarantine_rows (finite.entries s.quarantine);
  outbox = map outbox_row (finite.entries s.engagement.outbox);
  seen = map seen_row (finite.entries s.engagement.seen);
  parent = map parent_row (finite.entries s.engagement.parents);
  recall = map recall_row (finite.entries s.engagement.own);
}

-- the rows stand in tables that their version has: the first one has none for packs, so a record with a pack has no rows
-- under it
abbrev pub HasTables : Rows → Type 0
HasTables rows = rows.version ≡ First → rows.pack ≡ []

-- those under the second version, which a site's own file has
abbrev pub rows_of : Record → Rows
rows_of = rows_under Second
