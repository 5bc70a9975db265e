use Rattle.std.proofs.Common.{map, take}
use Rattle.site_folders.specs.FileCalls.{Led}
use Rattle.command_line.specs.Converting.{Converts}
use Rattle.command_line.proofs.convert_commands.convert_all.Given as goal

-- the files so far are converted
abbrev pub invariant-loop-path : goal.invariant-loop-path
invariant-loop-path g l =
    Led g.F.Files.does l.initial.files l.files
    (Converts g.W.Write.contents (l.asked.ways, l.sites) (map (λ p. p.now) (take l.path-index l.paths)) l.initial.output l.output l.total.refused)
