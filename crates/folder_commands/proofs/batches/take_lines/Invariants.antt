use Rattle.std.proofs.Common.{◌≡◌, ◌+◌, ℕ, List, length}
use Rattle.site_folders.specs.FileCalls.{Calls}
use Rattle.folder_commands.specs.Batches.{Standing, Stands, Takes}
use Rattle.folder_commands.specs.Words.{of_lines, reads_lines}
use Rattle.folder_commands.proofs.batches.take_lines.Given as goal

-- the lines so far were read, and their inputs were taken; a crash leaves what is shown
abbrev pub invariant-loop-number : goal.invariant-loop-number
invariant-loop-number g l =
    (texts : List (List ℕ)) × (l.number ≡ 1 + length texts)
    × Calls g.F.Files.does l.initial.files (reads_lines l.path texts) l.files
    × (g.K.SiteKeeper.stored l.initial.run.keeper → g.K.SiteKeeper.stored l.run.keeper)
    × ((start : Standing g.row.W.Denot) → Stands g.K.SiteKeeper.shown l.initial.run.sites l.initial.run l.initial.output start
    → (mid : Standing g.row.W.Denot) × Stands g.K.SiteKeeper.shown l.initial.run.sites l.run l.output mid
    × Takes (g.S.InputSink.takes l.fn.sink) l.initial.run.sites start (of_lines l.doing l.path 1 texts) mid)
