use Rattle.std.proofs.Common.{All}
use Rattle.folder_commands.proofs.RoundLemmas.{SoFar}
use Rattle.folder_commands.proofs.rounds.run_rounds.Given as goal

-- the runs so far, behind which another one follows
abbrev pub invariant-loop : goal.invariant-loop
invariant-loop g l =
    SoFar g.K.SiteKeeper.shown g.K.SiteKeeper.failed g.K.SiteKeeper.may l.terms l.initial.keepers.items l.keepers.items l.counter
    × (All g.K.SiteKeeper.stored l.initial.keepers.items → All g.K.SiteKeeper.stored l.keepers.items)
