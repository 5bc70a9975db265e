use Rattle.std.proofs.Common.{◌≤◌}
use Rattle.site_folders.specs.FileCalls.{Calls}
use Rattle.folder_commands.specs.Making.{makes_from}
use Rattle.folder_commands.proofs.making.make_all.Given as goal

-- the files of the sites so far were made
abbrev pub invariant-loop-number : goal.invariant-loop-number
invariant-loop-number g l = Calls g.F.Files.does l.initial.files (makes_from l.folder l.sites 0 l.number) l.files × (l.number ≤ l.number-end)
