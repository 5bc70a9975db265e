use Rattle.std.proofs.Common.{◌∙◌, ap, refl, sym, arith}
use Rattle.site_threads.specs.Keepers.{shown_if}
use Rattle.site_threads.proofs.Continuing.{continues_none, continues_on}
use Rattle.site_threads.proofs.Posting.{owed_of, posts_as, posts_more, posts_none, wishes_none}
use Rattle.site_threads.proofs.Wired.{others_none}
use Rattle.site_threads.proofs.sites.RunningSite.send_all.Goals as goal

pub loop-number-init : goal.loop-number-init
loop-number-init g c = record {
  same = continues_none g.K.SiteKeeper.stored c.args.self.now;
  takes = (refl, refl, refl, refl);
  posted = posts_none _ 0 0 _ _ _ _ _ (omega arith) (wishes_none c.args.self.now.me 0 0 _ _ _ (others_none c.args.self.now.me 0)) (λ to. refl);
  count = omega arith;
}

pub loop-number-preserved : goal.loop-number-preserved
loop-number-preserved g c =
    let i = c.loop-number.invariant in
    let t = c.send-one.ensures in
    let one = t.count in
    let sum = i.count in
    record {
      same = continues_on g.K.SiteKeeper.stored 0 0 0 _ _ _ (omega arith) i.same t.same;
      takes = (t.takes.0 ∙ i.takes.0, t.takes.1 ∙ i.takes.1, t.takes.2 ∙ i.takes.2, t.takes.3 ∙ i.takes.3);
      posted = posts_more _ 0 _ _ _ _ _ _ _ _ _ _ _ _ _ _ (omega arith) (omega arith)
          (posts_as _ _ _ _ _ _ _ _ _ _ _ _ _ _ _ _ refl (sym (ap (shown_if g.K.SiteKeeper.shown) t.takes.2)) refl refl refl i.posted)
          (posts_as _ _ _ _ _ _ _ _ _ _ _ _ _ _ _ _ i.same.me refl (ap owed_of i.takes.3) refl refl t.posted);
      count = omega (arith, one, sum);
    }
