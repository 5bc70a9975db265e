use Rattle.std.proofs.Common.{◌≡◌, ◌≤◌, ◌++◌, Bool, List, length}
use Rattle.std.specs.List.{AllZip}
use Rattle.recall_outcomes.specs.declared.outcomes.CommandRefusal.{CommandRefusal}
use Rattle.site_folders.specs.FileCalls.{Calls}
use Rattle.folder_commands.specs.Making.{existing, looks_from}
use Rattle.site_folders.specs.Refusals.{IsExists}
use Rattle.folder_commands.proofs.making.push_existing.Given as goal

-- the sites so far were looked for
abbrev pub invariant-loop-number : goal.invariant-loop-number
invariant-loop-number g l =
    ((found : List Bool) × Calls g.F.Files.does l.initial.files (looks_from l.folder l.sites 0 found) l.files
    × (length found ≡ l.number) × (more : List CommandRefusal) × AllZip IsExists (existing l.sites 0 found) more
    × (l.refusals.items ≡ l.fn.refusals.items ++ more))
    × (l.number ≤ l.number-end)
