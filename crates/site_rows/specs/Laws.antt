-- Laws of the rows of a record.
use Rattle.std.specs.Prelude.{◌≡◌, ◌≢◌, ◌↔◌, ℕ, All, IsUtf8, Some, length, slice_get}
use Rattle.std.specs.FinMap as finite
use Rattle.std.specs.Ordering.{nat_cmp}
use Rattle.event_json.specs.Contents.{id_of, kind_of}
use Rattle.event_json.specs.Events.{Content, IsBody}
use Rattle.event_json.specs.Sites.{AreSites, Site}
use Rattle.frame_core.specs.Numbers.{Recall, Message}
use Rattle.frame_core.specs.declared.frames.Frame.TheVariants as frames
use Rattle.frame_core.specs.declared.rows.Row.{Row}
use Rattle.scholten_core.specs.Engagement.{Engagement}
use Rattle.scholten_core.specs.declared.own_recalls.Own.{Own}
use Rattle.site_core.specs.ItemSets as set
use Rattle.site_core.specs.Quarantines.{Items, Quarantine}
use Rattle.site_core.specs.Records.{Record, IsSound}
use Rattle.site_core.specs.Steps.{Does}
use Rattle.site_core.specs.declared.inputs.SiteInput.TheVariants.{Deliver}
use Rattle.site_core.specs.declared.outcomes.Effects.{Effects}
use Rattle.site_rows.specs.BadParts.{AreMembers}
use Rattle.site_rows.specs.ReadRows.{IsBadRow}
use Rattle.site_rows.specs.RecordRows.{HasTables, rows_under}
use Rattle.site_rows.specs.Texts.{IsItemText, IsTextOrNone}
use Rattle.site_rows.specs.declared.tables.Table.{Table}
use Rattle.site_rows.specs.declared.tables.Version.{Version}
use Rattle.site_rows.specs.declared.tables.Version.TheVariants.{First}

-- a record that a site may keep
pub record IsKept (s : Record) : Type 0 where
  pub sites : AreSites s.sites
  pub sound : IsSound s

-- two such records are equal where their rows are, under one version or the other
abbrev pub RowsTellTheRecord : Type 0
RowsTellTheRecord = (v : Version) (s t : Record) → IsKept s → IsKept t → rows_under v s ≡ rows_under v t → s ≡ t

-- an event within its limits, whose members are items, sites of a list of this length, and plain destinations, and whose
-- eventID and transformationID are plain; all its texts are UTF-8
pub record IsEventAmong (sites : ℕ) (e : Content) : Type 0 where
  pub identifier : IsTextOrNone e.id
  pub make_id : IsTextOrNone (id_of e.body)
  pub limits : IsBody e.body
  pub members : AreMembers sites e.body

-- each text that is quarantined is the key of an item, in UTF-8
abbrev pub HoldsKeys : Quarantine → Type 0
HoldsKeys q = (r : Recall) (items : Items) → finite.get q r ≡ Some items → All IsItemText (set.items items)

-- each message is about an item
abbrev pub AreOfItems : finite.FinMap nat_cmp Row → Type 0
AreOfItems outbox = (number : ℕ) (row : Row) → finite.get outbox number ≡ Some row → IsItemText row.item

-- each own recall began with one
abbrev pub BeganWithItems : finite.FinMap nat_cmp Own → Type 0
BeganWithItems recalls = (number : ℕ) (own : Own) → finite.get recalls number ≡ Some own → IsItemText own.root

-- so it is of a site's part in recalls
pub record NamesItems (d : Engagement) : Type 0 where
  pub outbox : AreOfItems d.outbox
  pub own : BeganWithItems d.own

-- the addresses of a site are UTF-8, as all plain texts of a record
abbrev pub HasTexts : Site → Type 0
HasTexts site = All IsUtf8 site.addresses

-- the texts of the record are those of items and sites, and its events are events
pub record HoldsItems (s : Record) : Type 0 where
  pub sites : All HasTexts s.sites
  pub events : All (IsEventAmong (length s.sites)) s.captured.events
  pub quarantine : HoldsKeys s.quarantine
  pub engagement : NamesItems s.engagement

-- no row of such a record is a bad one, and none is missing, where its rows stand in tables of the version
abbrev pub RowsOfRecordsAreGood : Type 0
RowsOfRecordsAreGood = (v : Version) (s : Record) → IsKept s → HoldsItems s → HasTables (rows_under v s) → (table : Table) (place : ℕ) → IsBadRow (rows_under v s) table place → ⊥

-- the first version has tables for all rows of a record just where no event is a pack
abbrev pub FirstVersionHasNoPacks : Type 0
FirstVersionHasNoPacks = (s : Record) → HasTables (rows_under First s) ↔ ((k : ℕ) (e : Content) → slice_get s.captured.events k ≡ Some e → kind_of e.body ≢ 3)

-- after a signal a record that a site may keep is one still, with the texts of items and sites
abbrev pub SignalsKeepItems : Type 0
SignalsKeepItems =
    (s t : Record) (m : Message) (by : ℕ) (told : Effects) → Does s (Deliver (frames.Signal m by)) told t
    → IsKept s → HoldsItems s → IsKept t × HoldsItems t
