use Rattle.std.proofs.Common.{◌≡◌, ◌*◌, ◌≤◌, false, None}
use Rattle.site_threads.specs.Running.{marks_in}
use Rattle.site_threads.specs.Runs.{SameRun}
use Rattle.site_threads.proofs.sites.RunningSite.go.Given as goal

abbrev pub invariant-loop : goal.invariant-loop
invariant-loop g l = record {
  same : SameRun g.K.SiteKeeper.stored l.fn.self l.self;
  few : marks_in l.self.seat.logs ≤ 18 * l.counter;
  going : l.self.fault ≡ None;
  asked : l.self.turns ≡ l.counter;
  within : l.counter ≤ l.turns;
  since : l.fn.self.turns ≤ l.counter;
  on : l.self.ended ≡ false;
}
