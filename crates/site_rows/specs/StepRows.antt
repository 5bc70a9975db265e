-- The rows that a step changes: what they make of the rows of a record, and how many there are of each table.
use Rattle.std.specs.Prelude.{◌≡◌, ℕ, ℤ, pos, not, if◌then◌else◌, cond, nat_lt, ◌&&◌, ◌++◌, List, [], ◌∷◌, Option, None, Some, length, map, filter, fold, is_some, IsPermutation}
use Rattle.std.specs.Ordering.{int_eq}
use Rattle.scholten_core.specs.Engagement.{Engagement}
use Rattle.site_core.specs.Records.{Record}
use Rattle.site_core.specs.declared.outcomes.Effects.{Effects}
use Rattle.site_core.specs.declared.outcomes.Effects.TheVariants as effects
use Rattle.site_rows.specs.declared.rows.StoreRow.{StoreRow}
use Rattle.site_rows.specs.declared.rows.OutboxRow.{OutboxRow}
use Rattle.site_rows.specs.declared.rows.ParentRow.{ParentRow}
use Rattle.site_rows.specs.declared.rows.RecallRow.{RecallRow}
use Rattle.site_rows.specs.declared.rows.Rows.{Rows}
use Rattle.site_rows.specs.RecordRows.{rows_of}
use Rattle.site_rows.specs.declared.changes.Numbers.{Numbers}
use Rattle.site_rows.specs.declared.changes.RecallKey.{RecallKey}
use Rattle.site_rows.specs.declared.changes.RowChanges.{RowChanges}

-- One row after another.

-- the messages without that of the number
abbrev pub without_message : List OutboxRow → ℤ → List OutboxRow
without_message rows number = filter (λ (row : OutboxRow). not (int_eq row.number number)) rows

-- the message in place of that of its number, or besides the others
abbrev pub put_message : List OutboxRow → OutboxRow → List OutboxRow
put_message rows row = without_message rows row.number ++ row ∷ []

-- the parents without that of the recall
abbrev pub without_parent : List ParentRow → RecallKey → List ParentRow
without_parent rows key = filter (λ (row : ParentRow). not (int_eq row.recall_site key.site && int_eq row.recall_no key.number)) rows

-- the own recall in place of that of its number, or besides the others
abbrev pub put_recall : List RecallRow → RecallRow → List RecallRow
put_recall rows row = filter (λ (other : RecallRow). not (int_eq other.number row.number)) rows ++ row ∷ []

-- the row of the site with new next numbers, where they changed
abbrev pub with_numbers : Numbers → StoreRow → StoreRow
with_numbers n row = record row { next_message = n.next_message; next_recall = n.next_recall }

abbrev pub renumbered : Option Numbers → List StoreRow → List StoreRow
renumbered None rows = rows
renumbered (Some n) rows = map (with_numbers n) rows

-- The changes lead from some rows to others. Events, their members and their packs come after those that stand; the rows of every
-- other table are in any order.
pub record LeadsTo (changes : RowChanges) (before after : Rows) : Type 0 where
  pub version : after.version ≡ before.version
  pub store : after.store ≡ renumbered changes.numbers before.store
  pub site : after.site ≡ before.site
  pub address : after.address ≡ before.address
  pub event : after.event ≡ before.event ++ changes.event
  pub part : after.part ≡ before.part ++ changes.part
  pub pack : after.pack ≡ before.pack ++ changes.pack
  pub packed : after.packed ≡ before.packed ++ changes.packed
  pub quarantine : IsPermutation (before.quarantine ++ changes.quarantine) after.quarantine
  pub outbox : IsPermutation (fold without_message (fold put_message before.outbox changes.outbox) changes.signalled) after.outbox
  pub seen : IsPermutation (before.seen ++ changes.seen) after.seen
  pub parent : IsPermutation (fold without_parent (before.parent ++ changes.parent) changes.left) after.parent
  pub recall : IsPermutation (fold put_recall before.recall changes.recall) after.recall

-- no row is changed
abbrev pub no_changes : RowChanges
no_changes = record { event = []; part = []; pack = []; packed = []; quarantine = []; outbox = []; seen = []; parent = []; signalled = []; left = []; recall = []; numbers = None }

-- the numbers that a site gives next, and where it numbered messages since
abbrev pub numbers_of : Engagement → Numbers
numbers_of e = record { next_message = pos e.next_message; next_recall = pos e.next_recall }

abbrev pub numbers_changed : Engagement → Engagement → Option Numbers
numbers_changed old new = if nat_lt old.next_message new.next_message then Some (numbers_of new) else None

-- How many rows of each table are inserted, put or taken away, but for the members and the packs of events.
pub record Counts : Type 0 where
  pub event : ℕ
  pub quarantine : ℕ
  pub outbox : ℕ
  pub seen : ℕ
  pub parent : ℕ
  pub signalled : ℕ
  pub left : ℕ
  pub recall : ℕ
  pub numbers : ℕ

abbrev pub counts_of : RowChanges → Counts
counts_of changes = record {
  event = length changes.event;
  quarantine = length changes.quarantine;
  outbox = length changes.outbox;
  seen = length changes.seen;
  parent = length changes.parent;
  signalled = length changes.signalled;
  left = length changes.left;
  recall = length changes.recall;
  numbers = cond (is_some changes.numbers) 1 0;
}

abbrev pub no_rows : Counts
no_rows = record { event = 0; quarantine = 0; outbox = 0; seen = 0; parent = 0; signalled = 0; left = 0; recall = 0; numbers = 0 }

-- what a step says of itself: each fresh event, each item that came under a recall and each message that was numbered
-- is a row; a message that is taken is seen, and becomes the parent where its signal is owed; a message that is signalled
-- goes, and with the last one of a recall its parent goes, or the site's own recall ends
abbrev pub counts_told : Effects → Counts
counts_told (effects.Captured fresh known skipped) = record no_rows { event = fresh }
counts_told (effects.Started recall quarantined numbered ended) = record no_rows { quarantine = quarantined; outbox = numbered; recall = 1; numbers = 1 }
counts_told (effects.Received quarantined numbered owed) =
    record no_rows { quarantine = quarantined; outbox = numbered; seen = 1; parent = cond owed 1 0; numbers = cond (nat_lt 0 numbered) 1 0 }
counts_told effects.Repeat = no_rows
counts_told effects.Stale = no_rows
counts_told effects.Cleared = record no_rows { signalled = 1 }
counts_told (effects.ParentDue parent) = record no_rows { signalled = 1; left = 1 }
counts_told (effects.Ended recall) = record no_rows { signalled = 1; recall = 1 }

-- the changes of a step with these effects, which led from the one record to the other
abbrev pub AreChangesOf : RowChanges → Effects → Record → Record → Type 0
AreChangesOf changes told old new = LeadsTo changes (rows_of old) (rows_of new) × (counts_of changes ≡ counts_told told)
