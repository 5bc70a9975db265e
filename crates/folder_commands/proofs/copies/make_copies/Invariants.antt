use Rattle.std.proofs.Common.{take}
use Rattle.site_recovery.specs.Checking.{records_at}
use Rattle.site_folders.specs.FileCalls.{Calls}
use Rattle.folder_commands.specs.Copying.{makes_copies}
use Rattle.folder_commands.proofs.copies.make_copies.Given as goal

-- the files of the records so far were made
abbrev pub invariant-loop-state : goal.invariant-loop-state
invariant-loop-state g l = Calls g.F.Files.does l.initial.files (makes_copies l.to (records_at (take l.state-index l.records))) l.files
