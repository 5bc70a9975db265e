use Rattle.std.proofs.Common.{◌+◌, ◌≤◌}
use Rattle.site_threads.specs.Passing.{PostsToEach, TakesNothing, owed_in}
use Rattle.site_threads.specs.Sites.{Continues}
use Rattle.site_threads.proofs.sites.RunningSite.send_all.Given as goal

abbrev pub invariant-loop-number : goal.invariant-loop-number
invariant-loop-number g l = record {
  same : Continues g.K.SiteKeeper.stored 0 l.fn.self l.self;
  takes : TakesNothing l.fn.self l.self;
  posted : PostsToEach g.K.SiteKeeper.shown 0 l.number (owed_in l.fn.self) l.fn.self l.self l.posted l.uncopied;
  count : l.posted + l.uncopied ≤ l.number;
}
