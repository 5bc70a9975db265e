-- What several inputs, documents or EPCs, come to in numbers.
use Rattle.std.specs.Prelude.{ℕ, ◌+◌, ◌-◌, ◌^◌, ◌==◌, if◌then◌else◌, min}
use Rattle.recall_outcomes.specs.declared.batches.InputOutcome.{InputOutcome}
use Rattle.recall_outcomes.specs.declared.batches.InputOutcome.TheVariants.{Captured, Started, Refused}
use Rattle.recall_outcomes.specs.declared.batches.Task.{Task}
use Rattle.recall_outcomes.specs.declared.batches.Totals.{Totals}

-- a count rises by so many, and stays at the greatest number
abbrev pub up : ℕ → ℕ → ℕ
up count more = min (count + more) (2 ^ 64 - 1)

abbrev pub none_yet : Task → Totals
none_yet task = record { task = task; inputs = 0; captured = 0; known = 0; skipped = 0; started = 0; refused = 0 }

abbrev pub with_one : Totals → InputOutcome → Totals
with_one t (Captured fresh known skipped) = record {
  task = t.task;
  inputs = up t.inputs 1;
  captured = up t.captured fresh;
  known = up t.known known;
  skipped = up t.skipped skipped;
  started = t.started;
  refused = t.refused;
}
with_one t (Started r new messages ended) = record {
  task = t.task;
  inputs = up t.inputs 1;
  captured = t.captured;
  known = t.known;
  skipped = t.skipped;
  started = up t.started 1;
  refused = t.refused;
}
with_one t (Refused why) = record {
  task = t.task;
  inputs = up t.inputs 1;
  captured = t.captured;
  known = t.known;
  skipped = t.skipped;
  started = t.started;
  refused = up t.refused 1;
}

-- the status of a program that ends with these totals
abbrev pub totals_status : Totals → ℕ
totals_status t = if t.refused == 0 then 0 else 1
