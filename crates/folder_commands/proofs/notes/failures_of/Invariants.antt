use Rattle.std.proofs.Common.{◌≡◌, map, take}
use Rattle.folder_commands.proofs.notes.failures_of.Given as goal

abbrev pub invariant-loop-keeper : goal.invariant-loop-keeper
invariant-loop-keeper g l = l.counts.items ≡ map g.K.SiteKeeper.failed (take l.keeper-index l.keepers)
