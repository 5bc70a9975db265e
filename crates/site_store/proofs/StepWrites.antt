-- What the tables hold once the rows of a step were tried.
use Rattle.std.proofs.Common.{◌≡◌, ℕ, ◌+◌, inl, inr, Bool, true, false, if◌then◌else◌, Option, None, Some, refl, ap, ◌∙◌, arith, length, ⊎_elim}
use Rattle.std.specs.Prelude.{cond, is_some, min}
use Rattle.std.proofs.Math.Nat.{zero-add}
use Rattle.std.proofs.lemmas.List.{length-append}
use Rattle.sqlite.specs.State.{State, HasCleanDisk, Survives}
use Rattle.sqlite.specs.declared.error.Error.{Error}
use Rattle.site_core.specs.Records.{Record}
use Rattle.site_core.specs.declared.outcomes.Effects.{Effects}
use Rattle.site_rows.specs.RecordRows.{rows_of}
use Rattle.site_rows.specs.StepRows.{LeadsTo, counts_of, counts_told}
use Rattle.site_rows.specs.declared.changes.Numbers.{Numbers}
use Rattle.site_rows.specs.declared.changes.RowChanges.{RowChanges}
use Rattle.site_tables.specs.Causes.{HasReason}
use Rattle.site_tables.specs.Changed.{changed, rows_written, numbers_written}
use Rattle.site_tables.specs.Stored.{Contents, Holds, IsStored, after, contents_of}
use Rattle.site_store.specs.Faults.{is_of_memory}
use Rattle.site_store.specs.declared.writing.Unwritten.TheVariants.{NoMemory, Failed}
use Rattle.site_store.specs.StepWritten.{Keeps, KeepsWhereFailed, FailsToWrite, LeavesOneOf, cause_of, total, IsCounted}
use Rattle.site_tables.proofs.Leading.{holds_after}

-- a crash leaves what it left before, or what the changes made
pub crash_leaves : (changes : RowChanges) (old new : Record) (s t : State) → LeadsTo changes (rows_of old) (rows_of new)
    → Survives s t (λ db. (before : Contents) → IsStored before s → Holds (after (changed changes) before) db) → HasCleanDisk t → Keeps old s → LeavesOneOf old new t
crash_leaves changes old new s t leads survives clean it db may =
    ⊎_elim (λ was. inl (it.crash db was)) (λ made. inr (holds_after changes (rows_of old) (rows_of new) db leads (made (contents_of (rows_of old)) it))) (survives.crash clean db may)

-- between two steps a crash leaves the old rows
kept_leaves : (old new : Record) (t : State) → Keeps old t → LeavesOneOf old new t
kept_leaves old new t it db may = inl (it.crash db may)

-- an error after which the old rows stand is out of memory, or one after which a crash leaves them
pub keeps_cause : (error : Error) (old new : Record) (t : State) → Keeps old t → KeepsWhereFailed old new t (cause_of error)
keeps_cause error old new t it = by (is_of_memory error)
  where
    by : (b : Bool) → KeepsWhereFailed old new t (if b then NoMemory else Failed error)
    by true = it
    by false = kept_leaves old new t it

numbers_are : (n : Option Numbers) → numbers_written n ≡ cond (is_some n) 1 0
numbers_are None = refl
numbers_are (Some n) = refl

regroup : (e p a b x y n : ℕ) → e + p + a + b + x + y + n ≡ e + x + y + n + p + a + b
regroup e p a b x y n = omega arith

rows_are : (changes : RowChanges) → rows_written changes ≡ total (counts_of changes) + length changes.part + length changes.pack + length changes.packed
rows_are changes =
    let c = counts_of changes in
    ap (λ k. c.event + length changes.part + length changes.pack + length changes.packed + (c.quarantine + c.outbox + c.seen + c.parent) + (c.signalled + c.left + c.recall) + k) (numbers_are changes.numbers)
    ∙ regroup c.event (length changes.part) (length changes.pack) (length changes.packed) (c.quarantine + c.outbox + c.seen + c.parent) (c.signalled + c.left + c.recall) c.numbers

-- the rows that were written are those that the step reports, and the members and the packs of events
pub is_counted : (changes : RowChanges) (old new : Record) (told : Effects) (written : ℕ) → LeadsTo changes (rows_of old) (rows_of new) → counts_of changes ≡ counts_told told
    → written ≡ min 18_446_744_073_709_551_615 (0 + rows_written changes) → IsCounted old told new written
is_counted changes old new told written leads counts is = (
  rows_written changes,
  record {
    parts = length changes.part;
    packs = length changes.pack;
    children = length changes.packed;
    more = ap length leads.part ∙ length-append (rows_of old).part changes.part;
    more_packs = ap length leads.pack ∙ length-append (rows_of old).pack changes.pack;
    more_children = ap length leads.packed ∙ length-append (rows_of old).packed changes.packed;
    all = rows_are changes ∙ ap (λ c. total c + length changes.part + length changes.pack + length changes.packed) counts;
  },
  is ∙ ap (min 18_446_744_073_709_551_615) (zero-add (rows_written changes)),
)

-- the reason of an error after which the old rows stand
pub fails_cause : (error : Error) (old new : State) → HasReason old new error → FailsToWrite old new (cause_of error)
fails_cause error old new why = by (is_of_memory error)
  where
    by : (b : Bool) → FailsToWrite old new (if b then NoMemory else Failed error)
    by true = tt
    by false = why
