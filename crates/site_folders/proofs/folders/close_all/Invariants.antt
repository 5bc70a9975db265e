use Rattle.site_folders.specs.Keepers.{closes_all}
use Rattle.site_folders.specs.FileCalls.{Calls}
use Rattle.site_folders.proofs.folders.close_all.Given as goal

abbrev pub invariant-loop-keeper : goal.invariant-loop-keeper
invariant-loop-keeper g l = Calls g.F.Files.does l.initial.files (closes_all l.yielded) l.files
