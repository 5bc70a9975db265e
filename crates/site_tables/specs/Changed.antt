-- The rows that a step changes.
use Rattle.std.specs.Prelude.{[], ◌∷◌, ◌+◌, length, map, ℕ, List, Option, None, Some}
use Rattle.sqlite.specs.declared.types.Value.TheVariants.{Int}
use Rattle.sqlite.specs.Order.{Row}
use Rattle.std.specs.Prelude.{ℤ}
use Rattle.site_rows.specs.declared.rows.OutboxRow.{OutboxRow}
use Rattle.site_rows.specs.declared.rows.RecallRow.{RecallRow}
use Rattle.site_rows.specs.declared.changes.Numbers.{Numbers}
use Rattle.site_rows.specs.declared.changes.RecallKey.{RecallKey}
use Rattle.site_rows.specs.declared.changes.RowChanges.{RowChanges}
use Rattle.site_rows.specs.declared.tables.Table.TheVariants.{Store, Event, Part, Pack, Packed, Quarantine, Outbox, Seen, Parent, Recall}
use Rattle.site_tables.specs.Tables.{outbox, parent, recall}
use Rattle.site_tables.specs.TableRows.{adds, without_key, puts, changes_each}
use Rattle.site_tables.specs.Stored.{Change}
use Rattle.site_tables.specs.Values.{event_values, part_values, pack_values, packed_values, quarantine_values, outbox_values, seen_values, parent_values, recall_values, recall_key, sets_numbers}

-- each in place of the one of its number, or besides the others
abbrev pub puts_outbox : List OutboxRow → List Row → List Row
puts_outbox = changes_each (λ row. puts outbox (outbox_values row))

abbrev pub puts_recall : List RecallRow → List Row → List Row
puts_recall = changes_each (λ row. puts recall (recall_values row))

-- without those of these keys
abbrev pub drops_outbox : List ℤ → List Row → List Row
drops_outbox = changes_each (λ number. without_key outbox (Int number ∷ []))

abbrev pub drops_parent : List RecallKey → List Row → List Row
drops_parent = changes_each (λ key. without_key parent (recall_key key))

-- with new next numbers, where they changed
abbrev pub renumbers : Option Numbers → List Row → List Row
renumbers None rows = rows
renumbers (Some n) rows = map (sets_numbers n) rows

-- what a step puts into each table
abbrev pub put : RowChanges → Change
put changes Store = renumbers changes.numbers
put changes Event = adds (map event_values changes.event)
put changes Part = adds (map part_values changes.part)
put changes Pack = adds (map pack_values changes.pack)
put changes Packed = adds (map packed_values changes.packed)
put changes Quarantine = adds (map quarantine_values changes.quarantine)
put changes Outbox = puts_outbox changes.outbox
put changes Seen = adds (map seen_values changes.seen)
put changes Parent = adds (map parent_values changes.parent)
put changes Recall = puts_recall changes.recall
put changes other = λ rows. rows

-- and what it takes out
abbrev pub dropped : RowChanges → Change
dropped changes Outbox = drops_outbox changes.signalled
dropped changes Parent = drops_parent changes.left
dropped changes other = λ rows. rows

-- what it makes of the rows of each table
abbrev pub changed : RowChanges → Change
changed changes t rows = dropped changes t (put changes t rows)

abbrev pub numbers_written : Option Numbers → ℕ
numbers_written None = 0
numbers_written (Some n) = 1

-- how many rows the step writes
abbrev pub rows_written : RowChanges → ℕ
rows_written changes =
    length changes.event + length changes.part + length changes.pack + length changes.packed + (length changes.quarantine + length changes.outbox + length changes.seen + length changes.parent)
    + (length changes.signalled + length changes.left + length changes.recall) + numbers_written changes.numbers
