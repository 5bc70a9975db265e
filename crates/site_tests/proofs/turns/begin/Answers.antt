use Rattle.std.proofs.Common.{sym, ap, subst}
use Rattle.keeper_core.specs.Memory.{shown_in}
use Rattle.site_threads.specs.Starting.{IsLastMarked}
use Rattle.site_tests.proofs.turns.begin.Goals as goal

pub new-requires-clause-start : goal.new-requires-clause-start
new-requires-clause-start c = (c.args.state, ap shown_in c.new-keeper.ensures, subst (λ k. IsLastMarked c.args.seat.logs k c.args.state) (sym c.me-me.ensures.me) c.requires.first.0)
