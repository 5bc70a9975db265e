-- What is noted beside what is told of records.
use Rattle.std.specs.Prelude.{◌≡◌, ◌⊎◌, List, [], length, Option, Some, None}
use Rattle.recall_outcomes.specs.declared.notes.Notes.{Notes}
use Rattle.recall_outcomes.specs.declared.notes.Notes.TheVariants as notes
use Rattle.site_core.specs.Records.{Record}
use Rattle.site_recovery.specs.Fit.{Fits}
use Rattle.site_recovery.specs.Looks.{world_of}
use Rattle.site_recovery.specs.Misfits.{IsMisfit}
use Rattle.site_recovery.specs.declared.checking.Misfit.{Misfit}

-- the records are consistent, or contradict each other so
abbrev pub Contradict : List Record → Option Misfit → Type 0
Contradict records None = Fits (world_of records) []
Contradict records (Some misfit) = IsMisfit (length records) (world_of records) misfit.condition misfit.site

-- it is noted how the records contradict each other; or they are consistent, and something else is noted
abbrev pub Beside : List Record → (Notes → Type 0) → Notes → Type 0
Beside records Else noted =
    ((misfit : Misfit) × (noted ≡ notes.Misfit misfit) × Contradict records (Some misfit)) ⊎ (Contradict records None × Else noted)
