-- What the notes of a run say of its steps.
use Rattle.std.specs.Prelude.{◌≡◌, ◌<◌, ℕ, List, All, length, sum_by}
use Rattle.site_threads.specs.Jobs.{stops_in}
use Rattle.site_threads.specs.declared.lists.RunLog.{RunLog}
use Rattle.folder_commands.specs.Notes.{stops_from}

-- A site is named only where it stopped.
abbrev pub OnlyStoppedAreNamed : Type 0
OnlyStoppedAreNamed = (site : ℕ) (before after : List ℕ) (lists : List RunLog) → All (λ s. 0 < s.times) (stops_from site before after lists)

-- Those that are named stopped as often together as all sites: none that stopped is left out, and a step in which its site
-- went on isn't counted.
abbrev pub EachStopIsTold : Type 0
EachStopIsTold =
    (site : ℕ) (before after : List ℕ) (lists : List RunLog) → length before ≡ length lists → length after ≡ length lists
    → sum_by (λ s. s.times) (stops_from site before after lists) ≡ sum_by (λ l. stops_in l.entries.items) lists
