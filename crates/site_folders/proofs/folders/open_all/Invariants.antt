use Rattle.std.proofs.Common.{◌≡◌, ◌≤◌, List, length}
use Rattle.site_core.specs.Records.{Record}
use Rattle.site_folders.specs.Keepers.{KeepFrom, opens_from}
use Rattle.site_folders.specs.FileCalls.{Calls}
use Rattle.site_folders.proofs.folders.open_all.Given as goal

abbrev pub invariant-loop-number : goal.invariant-loop-number
invariant-loop-number g l =
    Calls g.F.Files.does l.initial.files (opens_from l.folder l.sites 0 l.keepers.items) l.files
    × ((rs : List Record) × KeepFrom g.K.SiteKeeper.shown g.K.SiteKeeper.stored l.sites 0 l.keepers.items rs)
    × (length l.keepers.items ≡ l.number) × (l.number ≤ l.number-end)
