use Rattle.std.proofs.Common.{◌≡◌, ◌≤◌, All, length}
use Rattle.site_threads.specs.Ends.{IsUnused}
use Rattle.site_threads.specs.declared.desks.DeskOut.{DeskOut}
use Rattle.folder_commands.proofs.runs.unused.Given as goal

abbrev pub invariant-loop : goal.invariant-loop
invariant-loop g l = (length l.desks.items ≡ l.counter) × All IsUnused l.desks.items × All (λ (d : DeskOut). d.limit ≡ 0) l.desks.items × (length l.gates.items ≡ l.counter) × (l.counter ≤ l.count)
