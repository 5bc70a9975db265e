-- What stands in each table of a record, by what is found in the record.
use Rattle.std.specs.Prelude.{◌≡◌, ◌↔◌, ◌⊎◌, ◌+◌, ◌*ℤ◌, ◌+ℤ◌, ℕ, ℤ, pos, Bool, true, false, List, [], ◌∷◌, map, length, Option, Some, None, Contains, IsTrue, slice_get}
use Rattle.std.specs.FinMap.{get}
use Rattle.event_json.specs.Events.{Content}
use Rattle.event_json.specs.Sites.{Site}
use Rattle.event_json.specs.declared.bodies.Action.{Action}
use Rattle.event_json.specs.declared.bodies.Action.TheVariants.{Add, Observe, Delete}
use Rattle.event_json.specs.declared.bodies.Body.{Body}
use Rattle.event_json.specs.declared.bodies.Body.TheVariants.{Note, Ship, Make, Pack}
use Rattle.frame_core.specs.Numbers.{Message, Recall}
use Rattle.frame_core.specs.declared.rows.Row.{Row}
use Rattle.scholten_core.specs.declared.own_recalls.Own.{Own}
use Rattle.site_core.specs.Quarantines.{held}
use Rattle.site_core.specs.Records.{Record}
use Rattle.site_rows.specs.BadEvents.{IsBelow}
use Rattle.site_rows.specs.Laws.{IsKept}
use Rattle.site_rows.specs.RecordRows.{name_of, rows_of}
use Rattle.site_rows.specs.declared.tables.Version.TheVariants.{Second}
use Rattle.site_rows.specs.declared.rows.SiteRow.{SiteRow}
use Rattle.site_rows.specs.declared.rows.AddressRow.{AddressRow}
use Rattle.site_rows.specs.declared.rows.EventRow.{EventRow}
use Rattle.site_rows.specs.declared.rows.PartRow.{PartRow}
use Rattle.site_rows.specs.declared.rows.PackRow.{PackRow}
use Rattle.site_rows.specs.declared.rows.PackedRow.{PackedRow}
use Rattle.site_rows.specs.declared.rows.QuarantineRow.{QuarantineRow}
use Rattle.site_rows.specs.declared.rows.OutboxRow.{OutboxRow}
use Rattle.site_rows.specs.declared.rows.SeenRow.{SeenRow}
use Rattle.site_rows.specs.declared.rows.ParentRow.{ParentRow}
use Rattle.site_rows.specs.declared.rows.RecallRow.{RecallRow}
use Rattle.site_rows.specs.declared.rows.Rows.{Rows}

-- the kind of an event, 0 seen, 1 shipped, 2 made, 3 packed, and the transformationID, which only what was made has
abbrev pub SaysKind : Body → ℤ → Option (List ℕ) → Type 0
SaysKind (Note items) kind id = (kind ≡ pos 0) × (id ≡ None)
SaysKind (Ship items to outside) kind id = (kind ≡ pos 1) × (id ≡ None)
SaysKind (Make transformation ins outs) kind id = (kind ≡ pos 2) × (id ≡ transformation)
SaysKind (Pack action parent children) kind id = (kind ≡ pos 3) × (id ≡ None)

-- the row at place k, from 0, is that of the event
pub record IsRowOfEvent (k : ℕ) (e : Content) (row : EventRow) : Type 0 where
  pub number : row.no ≡ pos (k + 1)
  pub id : row.id ≡ e.id
  pub instant : e.instant ≡ row.seconds *ℤ pos 1_000_000_000 +ℤ row.nanos
  pub nanos : (n : ℕ) × IsBelow 1_000_000_000 row.nanos n
  pub kind : SaysKind e.body row.kind row.make_id

-- the lists of an event by role: 0 items seen or shipped, 1 the names of the traced sites that they go to, 2 destinations
-- outside, 3 inputs, 4 outputs
abbrev pub HasList : List Site → Body → ℕ → List (List ℕ) → Type 0
HasList sites (Note items) role texts = (role ≡ 0) × (texts ≡ items)
HasList sites (Ship items to outside) role texts =
    ((role ≡ 0) × (texts ≡ items)) ⊎ (((role ≡ 1) × (texts ≡ map (name_of sites) to)) ⊎ ((role ≡ 2) × (texts ≡ outside)))
HasList sites (Make id ins outs) role texts = ((role ≡ 3) × (texts ≡ ins)) ⊎ ((role ≡ 4) × (texts ≡ outs))
HasList sites (Pack action parent children) role texts = ⊥

-- what is said of the children of a pack: 0 put in, 1 seen, 2 taken out
abbrev pub SaysAction : Action → ℤ → Type 0
SaysAction Add n = n ≡ pos 0
SaysAction Observe n = n ≡ pos 1
SaysAction Delete n = n ≡ pos 2

-- `ended` of a recall
abbrev pub SaysEnd : Bool → ℤ → Type 0
SaysEnd true n = n ≡ pos 1
SaysEnd false n = n ≡ pos 0

-- the member at a place, from 0, of the list of a role of the event at place k
pub record IsRowOfMember (s : Record) (row : PartRow) : Type 0 where
  pub k : ℕ
  pub event : Content
  pub role : ℕ
  pub texts : List (List ℕ)
  pub place : ℕ
  pub text : List ℕ
  pub captured : slice_get s.captured.events k ≡ Some event
  pub list : HasList s.sites event.body role texts
  pub member : slice_get texts place ≡ Some text
  pub is : row ≡ record { event = pos (k + 1); role = pos role; place = pos place; text = text }

-- the row of the pack at place k
pub record IsRowOfPack (s : Record) (row : PackRow) : Type 0 where
  pub k : ℕ
  pub event : Content
  pub action : Action
  pub parent : Option (List ℕ)
  pub children : List (List ℕ)
  pub captured : slice_get s.captured.events k ≡ Some event
  pub packs : event.body ≡ Pack action parent children
  pub number : row.event ≡ pos (k + 1)
  pub says : SaysAction action row.action
  pub parent_is : row.parent ≡ parent

-- the child at a place, from 0, of the pack at place k
pub record IsRowOfChild (s : Record) (row : PackedRow) : Type 0 where
  pub k : ℕ
  pub event : Content
  pub action : Action
  pub parent : Option (List ℕ)
  pub children : List (List ℕ)
  pub place : ℕ
  pub text : List ℕ
  pub captured : slice_get s.captured.events k ≡ Some event
  pub packs : event.body ≡ Pack action parent children
  pub child : slice_get children place ≡ Some text
  pub is : row ≡ record { event = pos (k + 1); place = pos place; text = text }

-- the rows stand for the record: what is found in the record has its row, and each row stands for something that is found
pub record StandFor (s : Record) (rows : Rows) : Type 0 where
  pub version : rows.version ≡ Second
  pub store : rows.store ≡ record { version = pos 2; me = pos s.engagement.me; next_message = pos s.engagement.next_message; next_recall = pos s.engagement.next_recall } ∷ []
  pub site : (row : SiteRow) → Contains rows.site row ↔ ((no : ℕ) × (site : Site) × (slice_get s.sites no ≡ Some site) × (row ≡ record { no = pos no; name = site.name }))
  pub address : (row : AddressRow) → Contains rows.address row
      ↔ ((no place : ℕ) × (site : Site) × (text : List ℕ) × (slice_get s.sites no ≡ Some site) × (slice_get site.addresses place ≡ Some text) × (row ≡ record { text = text; site = pos no; place = pos place }))
  pub events : length rows.event ≡ length s.captured.events
  pub event : (k : ℕ) (row : EventRow) → slice_get rows.event k ≡ Some row → (e : Content) × (slice_get s.captured.events k ≡ Some e) × IsRowOfEvent k e row
  pub part : (row : PartRow) → Contains rows.part row ↔ IsRowOfMember s row
  pub pack : (row : PackRow) → Contains rows.pack row ↔ IsRowOfPack s row
  pub packed : (row : PackedRow) → Contains rows.packed row ↔ IsRowOfChild s row
  pub quarantine : (row : QuarantineRow) → Contains rows.quarantine row ↔ ((r : Recall) × (i : List ℕ) × IsTrue (held s.quarantine r i) × (row ≡ record { recall_site = pos r.site; recall_no = pos r.number; item = i }))
  pub outbox : (row : OutboxRow) → Contains rows.outbox row
      ↔ ((number : ℕ) × (m : Row) × (get s.engagement.outbox number ≡ Some m) × (row ≡ record { number = pos number; dest = pos m.dest; recall_site = pos m.recall.site; recall_no = pos m.recall.number; item = m.item }))
  pub seen : (row : SeenRow) → Contains rows.seen row
      ↔ ((m : Message) × (r : Recall) × (get s.engagement.seen m ≡ Some r) × (row ≡ record { sender = pos m.site; number = pos m.number; recall_site = pos r.site; recall_no = pos r.number }))
  pub parent : (row : ParentRow) → Contains rows.parent row
      ↔ ((r : Recall) × (m : Message) × (get s.engagement.parents r ≡ Some m) × (row ≡ record { recall_site = pos r.site; recall_no = pos r.number; sender = pos m.site; number = pos m.number }))
  pub recall : (row : RecallRow) → Contains rows.recall row
      ↔ ((number : ℕ) × (own : Own) × (get s.engagement.own number ≡ Some own) × (row.number ≡ pos number) × (row.root ≡ own.root) × SaysEnd own.ended row.ended)

-- so do the rows of a record that a site may keep
abbrev pub RowsStandForTheRecord : Type 0
RowsStandForTheRecord = (s : Record) → IsKept s → StandFor s (rows_of s)
