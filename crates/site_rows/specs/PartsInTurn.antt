-- The rows of the lists of events, read in turn: what was read, and that no other table begins so.
use Rattle.std.specs.Prelude.{◌≡◌, ◌⊎◌, ◌≤◌, ℕ, ℤ, pos, ⊤, Bool, true, false, All, IfSome, IsSome, List, [], ◌∷◌, ◌++◌, length, map, take, Option, Some, None, slice_get}
use Rattle.std.specs.List.{enumerate_from}
use Rattle.event_json.specs.Contents.{number_of}
use Rattle.event_json.specs.Sites.{Site}
use Rattle.event_json.specs.declared.bodies.Action.{Action}
use Rattle.event_json.specs.declared.bodies.Action.TheVariants.{Add}
use Rattle.event_json.specs.declared.bodies.Body.{Body}
use Rattle.site_rows.specs.BadParts.{IsBodyOf, IsPackTable, IsPackedTable, IsPartTable}
use Rattle.site_rows.specs.BadRows.{IsFirstBad}
use Rattle.site_rows.specs.RecordRows.{body_rows, pack_rows, part_row}
use Rattle.site_rows.specs.Texts.{IsItemText}
use Rattle.site_rows.specs.declared.reading.StateFault.{StateFault}
use Rattle.site_rows.specs.declared.reading.StateFault.TheVariants as fault
use Rattle.site_rows.specs.declared.rows.EventRow.{EventRow}
use Rattle.site_rows.specs.declared.rows.PackRow.{PackRow}
use Rattle.site_rows.specs.declared.rows.PackedRow.{PackedRow}
use Rattle.site_rows.specs.declared.rows.PartRow.{PartRow}
use Rattle.site_rows.specs.declared.tables.Table.{Table}
use Rattle.site_rows.specs.declared.tables.Table.TheVariants.{Part, Pack, Packed}

-- a member, and the text that stands for it
pub record IsWritten {M : Type 0} (Is : M → Type 0) (written : M → List ℕ) (text : List ℕ) (member : M) : Type 0 where
  pub same : written member ≡ text
  pub is : Is member

-- the row of a member at a place of a list, whose rows are made so
pub record IsMemberBy {M R : Type 0} (row_of : ℕ × List ℕ → R) (Is : M → Type 0) (written : M → List ℕ) (place : ℕ) (row : Option R) (member : M) : Type 0 where
  pub there : row ≡ Some (row_of (place, written member))
  pub is : Is member

abbrev pub IsMemberAt : {M : Type 0} → (M → Type 0) → (M → List ℕ) → ℕ → ℕ → ℕ → Option PartRow → M → Type 0
IsMemberAt Is written event role = IsMemberBy (part_row event role) Is written

-- the members of a list that has at most so many, from a place to another: it is full, or the row that stands behind it
-- isn't that of a next member
pub record IsListBy {M R : Type 0} (row_of : ℕ × List ℕ → R) (Is : M → Type 0) (written : M → List ℕ) (most : ℕ) (rows : List R) (from to : ℕ) (members : List M) : Type 0 where
  pub within : to ≤ length rows
  pub listed : take to rows ≡ take from rows ++ map row_of (enumerate_from 0 (map written members))
  pub few : length members ≤ most
  pub all : All Is members
  pub ends : (length members ≡ most) ⊎ ((m : M) → IsMemberBy row_of Is written (length members) (slice_get rows to) m → ⊥)

-- those of an event and a role
abbrev pub IsListRead : {M : Type 0} → (M → Type 0) → (M → List ℕ) → ℕ → ℕ → ℕ → List PartRow → ℕ → ℕ → List M → Type 0
IsListRead Is written event role = IsListBy (part_row event role) Is written

-- the event of a row
abbrev pub part_event : PartRow → ℤ
part_event row = row.event

abbrev pub pack_event : PackRow → ℤ
pack_event row = row.event

abbrev pub packed_event : PackedRow → ℤ
packed_event row = row.event

-- the first row, where there is one, is not of the event
abbrev pub IsPastBy : {R : Type 0} → (R → ℤ) → ℕ → List R → Type 0
IsPastBy event_of event [] = ⊤
IsPastBy event_of event (row ∷ rows) = event_of row ≡ pos event → ⊥

abbrev pub IsPast : ℕ → List PartRow → Type 0
IsPast = IsPastBy part_event

module _ {R : Type 0} (event_of : R → ℤ) (rows_by : ℕ → Body → List R) (sites event : ℕ) (kind : ℤ) (id : Option (List ℕ)) where
  -- Whatever goes on behind rows that were read, if its first row is the one that stands there: the rows of an event of
  -- this kind that make them up, with rows past the event behind them, are those that were read ...
  abbrev pub AreAllReadBy : List R → Option R → Type 0
  AreAllReadBy read next = (other : Body) (on behind : List R) → IsBodyOf sites kind id other → slice_get on 0 ≡ next
      → IsPastBy event_of event behind → read ++ on ≡ rows_by event other ++ behind → on ≡ behind

  -- ... or there are none such
  abbrev pub IsWantingBy : List R → Option R → Type 0
  IsWantingBy read next = (other : Body) (on behind : List R) → IsBodyOf sites kind id other → slice_get on 0 ≡ next
      → IsPastBy event_of event behind → read ++ on ≡ rows_by event other ++ behind → ⊥

  -- what an event says of its items, whose rows stand from a place to another, and no others begin so
  pub record IsReadBy (rows : List R) (from to : ℕ) (body : Body) : Type 0 where
    pub within : to ≤ length rows
    pub good : IsBodyOf sites kind id body
    pub listed : take to rows ≡ take from rows ++ rows_by event body
    pub only : AreAllReadBy (rows_by event body) (slice_get rows to)

  -- the rows between the places begin those of an event, and with the row that stands there they begin none
  pub record IsStuckBy (rows : List R) (from to : ℕ) : Type 0 where
    pub within : to ≤ length rows
    pub read : List R
    pub listed : take to rows ≡ take from rows ++ read
    pub body : Body
    pub good : IsBodyOf sites kind id body
    pub more : List R
    pub begins : rows_by event body ≡ read ++ more
    pub wanting : IsWantingBy read (slice_get rows to)

-- ---- the rows of `part`
abbrev pub AreAllRead : List Site → ℕ → ℤ → Option (List ℕ) → List PartRow → Option PartRow → Type 0
AreAllRead sites = AreAllReadBy part_event (body_rows sites) (length sites)

abbrev pub IsWanting : List Site → ℕ → ℤ → Option (List ℕ) → List PartRow → Option PartRow → Type 0
IsWanting sites = IsWantingBy part_event (body_rows sites) (length sites)

abbrev pub IsBodyRead : List Site → ℕ → ℤ → Option (List ℕ) → List PartRow → ℕ → ℕ → Body → Type 0
IsBodyRead sites = IsReadBy part_event (body_rows sites) (length sites)

abbrev pub IsStuck : List Site → ℕ → ℤ → Option (List ℕ) → List PartRow → ℕ → ℕ → Type 0
IsStuck sites = IsStuckBy part_event (body_rows sites) (length sites)

-- the one or the other
abbrev pub IsBodyAnswer : List Site → ℕ → ℤ → Option (List ℕ) → List PartRow → ℕ → ℕ → Option Body → Type 0
IsBodyAnswer sites event kind id rows from to None = IsStuck sites event kind id rows from to
IsBodyAnswer sites event kind id rows from to (Some body) = IsBodyRead sites event kind id rows from to body

-- ---- the rows of `pack`
-- an action and a parent that an event may have: what is put in has a parent, which is an item
pub record IsHead (action : Action) (parent : Option (List ℕ)) : Type 0 where
  pub some : action ≡ Add → IsSome parent
  pub key : IfSome parent IsItemText

-- the row is that of a pack with this action and this parent
pub record IsHeadOf (event : ℕ) (row : Option PackRow) (action : Action) (parent : Option (List ℕ)) : Type 0 where
  pub there : row ≡ Some (record { event = pos event; action = pos (number_of action); parent = parent })
  pub head : IsHead action parent

-- what becomes of the rows of `pack` with an event: where they are bad already nothing, else the event's row is read, or it is
-- wanting or bad
abbrev pub ArePacksRead : ℕ → ℕ → ℤ → Option (List ℕ) → List PackRow → ℕ → ℕ → Bool → Bool → Body → Type 0
ArePacksRead sites event kind id rows from to true bad body = (to ≡ from) × (bad ≡ true)
ArePacksRead sites event kind id rows from to false true body = IsStuckBy pack_event pack_rows sites event kind id rows from to
ArePacksRead sites event kind id rows from to false false body = IsReadBy pack_event pack_rows sites event kind id rows from to body

-- ---- the first bad row of the three tables, in their order
abbrev pub IsListsFault : List Site → List EventRow → List PartRow → List PackRow → List PackedRow → Table → ℕ → Type 0
IsListsFault sites events parts packs packed Part place = IsFirstBad (IsPartTable sites events) parts place
IsListsFault sites events parts packs packed Pack place = IsPartTable sites events parts × IsFirstBad (IsPackTable (length sites) events) packs place
IsListsFault sites events parts packs packed Packed place = IsPartTable sites events parts × IsPackTable (length sites) events packs × IsFirstBad (IsPackedTable (length sites) events) packed place
IsListsFault sites events parts packs packed other place = ⊥

abbrev pub IsFaultOfLists : List Site → List EventRow → List PartRow → List PackRow → List PackedRow → StateFault → Type 0
IsFaultOfLists sites events parts packs packed fault.NoMemory = ⊤
IsFaultOfLists sites events parts packs packed (fault.BadRow bad) = IsListsFault sites events parts packs packed bad.table bad.row
