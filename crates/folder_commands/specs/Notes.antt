-- What is noted of a run beside its recalls: which sites stopped, how often and why, and that a further run goes on.
use Rattle.std.specs.Prelude.{◌≡◌, ◌≢◌, ◌==◌, ◌≤◌, ℕ, ◌+◌, not, nat_lt, if◌then◌else◌, List, [], ◌∷◌, ◌++◌, length, Option, Some, None, string_bytes}
use Rattle.std.specs.List.{AllZip, list_any}
use Rattle.event_json.specs.Sites.{Site}
use Rattle.recall_outcomes.specs.Missed.{IsNoReach}
use Rattle.recall_outcomes.specs.declared.notes.Notes.{Notes}
use Rattle.recall_outcomes.specs.declared.notes.Notes.TheVariants as notes
use Rattle.recall_outcomes.specs.declared.notes.RunNotes.{RunNotes}
use Rattle.recall_outcomes.specs.declared.notes.Stop.{Stop}
use Rattle.recall_outcomes.specs.declared.notes.StopCause.{StopCause}
use Rattle.recall_outcomes.specs.declared.notes.StopCause.TheVariants.{Device, Store}
use Rattle.recall_outcomes.specs.declared.outcomes.StartedRecall.{StartedRecall}
use Rattle.recall_text.specs.Words.{name_at}
use Rattle.site_folders.specs.Paths.{file_path}
use Rattle.site_threads.specs.Jobs.{stops_in}
use Rattle.site_threads.specs.declared.lists.RunLog.{RunLog}
use Rattle.trace_core.specs.declared.pairs.Pair.{Pair}
use Rattle.folder_commands.specs.declared.notes.RunEnd.{RunEnd}
use Rattle.folder_commands.specs.declared.notes.Stopped.{Stopped}

-- ---- what is known

-- why a site stopped, by how often its device had failed before the run and has after it: the device failed in the run; or
-- else the database refused
abbrev pub cause_of : ℕ → ℕ → StopCause
cause_of before after = if nat_lt before after then Device else Store

-- the site, where it stopped in so many steps: none where in no step
abbrev pub stop_at : ℕ → ℕ → StopCause → List Stopped
stop_at site times cause = if times == 0 then [] else record { site = site; times = times; cause = cause } ∷ []

-- of the sites from a number on those that stopped in their steps, by how often their devices had failed before the run,
-- how often after it, and their lists of steps
abbrev pub stops_from : ℕ → List ℕ → List ℕ → List RunLog → List Stopped
stops_from site (before ∷ befores) (after ∷ afters) (l ∷ lists) =
    stop_at site (stops_in l.entries.items) (cause_of before after) ++ stops_from (site + 1) befores afters lists
stops_from site [] afters lists = []
stops_from site (before ∷ befores) [] lists = []
stops_from site (before ∷ befores) (after ∷ afters) [] = []

-- What a run ended with: just the sites that stopped in its steps, and whether one of the recalls that sites have begun is
-- open. Whether sites shared threads is as the run says.
pub record EndsSo (before after : List ℕ) (lists : List RunLog) (recalls : List StartedRecall) (end : RunEnd) : Type 0 where
  pub stops : end.stops.items ≡ stops_from 0 before after lists
  pub unended : end.unended ≡ list_any (λ b. not b.ended) recalls

-- one of each for each site, of which there are at most 16
pub record AreOfSites (before after : List ℕ) (lists : List RunLog) : Type 0 where
  pub few : length lists ≤ 16
  pub befores : length before ≡ length lists
  pub afters : length after ≡ length lists

-- ---- what is noted

-- what open recalls miss, if they miss anything
abbrev pub NotesMissed : List Pair → Notes → Type 0
NotesMissed missed notes.Nothing = missed ≡ []
NotesMissed missed (notes.Missed found) =
    (found.pairs.items ≡ missed) × (missed ≢ []) × (found.containers.items ≡ []) × IsNoReach found.reach × (found.inside ≡ 0)
NotesMissed missed other = ⊥

module _ (knows : List ℕ → List ℕ → Type 0) (folder : List ℕ) (sites : List Site) where
  -- a site that stopped, with what the files know of the failures that its file met
  pub record NotesStop (stopped : Stopped) (stop : Stop) : Type 0 where
    pub site : stop.site ≡ stopped.site
    pub times : stop.times ≡ stopped.times
    pub cause : stop.cause ≡ stopped.cause
    pub known : knows (file_path folder (name_at sites stopped.site)) (string_bytes stop.known)

  -- what a run ended with, and what open recalls missed before it
  pub record NotesRun (missed : List Pair) (end : RunEnd) (run : RunNotes) : Type 0 where
    pub missed_are : run.missed.items ≡ missed
    pub stops : AllZip NotesStop end.stops.items run.stops.items
    pub shared : run.shared ≡ end.shared
    pub unended : run.unended ≡ end.unended

  -- where there was a run; else what open recalls miss
  abbrev pub NotesEnd : List Pair → Option RunEnd → Notes → Type 0
  NotesEnd missed (Some end) (notes.Run run) = NotesRun missed end run
  NotesEnd missed (Some end) other = ⊥
  NotesEnd missed None noted = NotesMissed missed noted
