-- what is noted beside what is told of records
use Rattle.std.proofs.Common.{◌↔◌, List, inl, inr}
use Rattle.std.specs.List.{Contains}
use Rattle.recall_outcomes.specs.declared.notes.Notes.{Notes}
use Rattle.site_core.specs.Records.{Record}
use Rattle.site_recovery.specs.Laws.{captured_of}
use Rattle.trace_core.specs.Chains.{Related}
use Rattle.trace_core.specs.Relations.{Reaches}
use Rattle.trace_core.specs.declared.pairs.Pair.{Pair}
use Rattle.folder_questions.specs.Beside.{Beside}
use Rattle.folder_questions.specs.MissedNotes.{NotesMissed, NotesMissedFrom}

module _ (records : List Record) (root : Pair) (pairs : List Pair) (exact : (p : Pair) → Contains pairs p ↔ Reaches (Related (captured_of records)) root p) where
  -- of these pairs, which are all that the root reaches
  pub missed_from_all : (noted : Notes) → Beside records (NotesMissed records pairs root) noted → Beside records (NotesMissedFrom records root) noted
  missed_from_all noted (inl misfit) = inl misfit
  missed_from_all noted (inr (fit, missed)) = inr (fit, (pairs, exact, missed))
