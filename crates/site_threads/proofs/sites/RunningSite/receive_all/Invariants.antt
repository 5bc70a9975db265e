use Rattle.std.proofs.Common.{◌≡◌, ℕ, ◌+◌, ◌≤◌, List, ◌++◌}
use Rattle.frame_core.specs.declared.frames.Frame.{Frame}
use Rattle.site_threads.specs.Offers.{owed_by}
use Rattle.site_threads.specs.Passing.{DeliversNoted, PostsNothing, TakesOfEach, incoming, owed_in}
use Rattle.site_threads.specs.Sites.{Continues}
use Rattle.site_threads.proofs.sites.RunningSite.receive_all.Given as goal

abbrev pub invariant-loop-number : goal.invariant-loop-number
invariant-loop-number g l = record {
  same : Continues g.K.SiteKeeper.stored l.number l.fn.self l.self;
  frames : TakesOfEach g.K.SiteKeeper.shown 0 l.number l.fn.self l.self l.entered l.lost;
  posts : PostsNothing l.fn.self l.self;
  delivered : DeliversNoted g.K.SiteKeeper.shown g.K.SiteKeeper.may g.K.SiteKeeper.applies l.fn.self l.self;
  owed : (took : List Frame) → (incoming l.self.seat.logs).noted ≡ (incoming l.fn.self.seat.logs).noted ++ took → (to : ℕ) → owed_in l.self to ≡ owed_by took to;
  count : l.entered + l.lost ≤ l.number;
}
