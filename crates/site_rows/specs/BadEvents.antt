-- The rows of events that stand in no record's rows, the members of their lists aside.
use Rattle.std.specs.Prelude.{◌≡◌, ◌⊎◌, ℕ, ℤ, pos, ◌+◌, ◌<◌, ⊤, List, Some, None, slice_get}
use Rattle.site_rows.specs.Texts.{IsTextOrNone}
use Rattle.site_rows.specs.declared.reading_entries.TableFault.{TableFault}
use Rattle.site_rows.specs.declared.reading_entries.TableFault.TheVariants.{NoMemory, BadRow}
use Rattle.site_rows.specs.declared.rows.EventRow.{EventRow}

-- a number from 0 that is below another
pub record IsBelow (most : ℕ) (n : ℤ) (m : ℕ) : Type 0 where
  pub number : n ≡ pos m
  pub below : m < most

-- the row at place k, from 0, is one of an event: its number is the next one, from 1, its eventID is plain and UTF-8
-- where it has one, its nanoseconds are 0 to 999,999,999, its kind is one of so many (a Note, a Ship, a Make and a Pack),
-- and only a Make has a transformationID, which is plain and UTF-8
pub record IsEvent (kinds k : ℕ) (row : EventRow) : Type 0 where
  pub number : row.no ≡ pos (k + 1)
  pub id : IsTextOrNone row.id
  pub nanos : (n : ℕ) × IsBelow 1_000_000_000 row.nanos n
  pub kind : (n : ℕ) × IsBelow kinds row.kind n
  pub make_id : IsTextOrNone row.make_id
  pub of_make : (row.kind ≡ pos 2) ⊎ (row.make_id ≡ None)

-- the rows of all events
abbrev pub IsEventTable : ℕ → List EventRow → Type 0
IsEventTable kinds rows = (k : ℕ) (row : EventRow) → slice_get rows k ≡ Some row → IsEvent kinds k row

-- the first row that is none, by its place from 1
pub record IsFirstBadEvent (kinds : ℕ) (rows : List EventRow) (place : ℕ) : Type 0 where
  pub before : ℕ
  pub next : place ≡ before + 1
  pub row : EventRow
  pub there : slice_get rows before ≡ Some row
  pub good : (k : ℕ) (r : EventRow) → k < before → slice_get rows k ≡ Some r → IsEvent kinds k r
  pub bad : IsEvent kinds before row → ⊥

-- the fault of the table
abbrev pub IsEventFault : ℕ → List EventRow → TableFault → Type 0
IsEventFault kinds rows NoMemory = ⊤
IsEventFault kinds rows (BadRow place) = IsFirstBadEvent kinds rows place
