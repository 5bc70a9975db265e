use Rattle.std.specs.List.{AllZip}
use Rattle.site_threads.proofs.Slices.{HasGone}
use Rattle.site_threads.proofs.runs.run_all.Given as goal

-- each site has gone through so many slices
abbrev pub invariant-loop : goal.invariant-loop
invariant-loop g l = AllZip (HasGone {G = g.row.G.Denot} g.K.SiteKeeper.shown g.K.SiteKeeper.reopens g.G.Gate.gives_up l.turns g.K.SiteKeeper.stored l.counter) l.fn.runs l.runs
