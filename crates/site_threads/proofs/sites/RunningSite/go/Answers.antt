use Rattle.std.proofs.Common.{refl, arith}
use Rattle.site_threads.proofs.Continuing.{same_none, same_on}
use Rattle.site_threads.proofs.Slices.{gave_up}
use Rattle.site_threads.proofs.sites.RunningSite.go.Goals as goal

pub loop-init : goal.loop-init
loop-init g c =
    let between = rw (← c.self.view_is) at c.requires.between in
    let on = between.on c.if-self.false in
    rw (← c.self.view_is)
    (record {
      same = same_none g.K.SiteKeeper.stored _;
      few = on.marks;
      going = on.fine;
      asked = refl;
      within = on.asked;
      since = omega arith;
      on = c.if-self.false;
    })

pub returns-in-Ended : goal.returns-in-Ended
returns-in-Ended g c =
    let i = c.loop.invariant in
    let t = rw (← c.self-in-loop.view_is) at c.one_turn.ensures in
    let ended = rw (← c.self-in-loop.view_is) at c.in-Ended.ensures in
    let turns = t.turns in
    let asked = i.asked in
    record { sliced = gave_up g.K.SiteKeeper.shown g.K.SiteKeeper.reopens g.G.Gate.gives_up c.args.turns g.K.SiteKeeper.stored _ _ (same_on g.K.SiteKeeper.stored _ _ _ i.same t.same) (omega (arith, turns, asked)) ended.going t.why }
