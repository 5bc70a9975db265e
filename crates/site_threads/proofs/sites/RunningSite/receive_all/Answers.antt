use Rattle.std.proofs.Common.{◌∙◌, refl, arith}
use Rattle.site_threads.proofs.Continuing.{continues_on}
use Rattle.site_threads.proofs.Delivering.{delivers_more, delivers_none}
use Rattle.site_threads.proofs.Owing.{owed_begins, owed_goes_on}
use Rattle.site_threads.proofs.Wired.{takes_at_none, takes_more, takes_as}
use Rattle.site_threads.proofs.sites.RunningSite.receive_all.Goals as goal

pub loop-number-init : goal.loop-number-init
loop-number-init g c =
    rw (← c.self.view_is)
    (record {
      same = record { wire = refl; me = refl; start = refl; first = refl; marks = omega arith; room = omega arith; keeps = λ s. s; turns = refl; out = refl; pending = refl; fault = refl; ended = refl };
      frames = takes_at_none _ 0 _ _ _;
      posts = (refl, refl);
      owed = owed_begins _ _ _ refl c.nothing_owed-self-inside.ensures;
      delivered = delivers_none g.K.SiteKeeper.shown g.K.SiteKeeper.may g.K.SiteKeeper.applies _ _ _ _ _ _ refl refl refl;
      count = omega arith;
    })

pub loop-number-preserved : goal.loop-number-preserved
loop-number-preserved g c =
    let i = c.loop-number.invariant in
    let t = c.receive-one.ensures in
    let one = t.count in
    let sum = i.count in
    record {
      same = continues_on g.K.SiteKeeper.stored c.loop-number.number 1 _ _ _ _ (omega arith) i.same t.same;
      frames = takes_more _ _ _ _ _ _ _ _ _ _ _ _ _ _ _ _ _ i.frames (takes_as _ _ _ _ _ _ _ _ _ _ _ _ _ _ _ _ _ _ i.same.me refl refl refl refl refl refl t.frames);
      posts = (t.posts.0 ∙ i.posts.0, t.posts.1 ∙ i.posts.1);
      owed = owed_goes_on _ _ _ i.frames.took t.frames.took _ _ i.frames.notes.noted t.frames.notes.noted i.owed t.owed;
      delivered = delivers_more g.K.SiteKeeper.shown g.K.SiteKeeper.may g.K.SiteKeeper.applies _ _ _ _ _ _ _ _ _ i.delivered t.delivered;
      count = omega (arith, one, sum);
    }
