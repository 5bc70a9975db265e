use Rattle.std.proofs.lemmas.Result.{on_ok_weaker}
use Rattle.trace_core.specs.Chains.{sites_at}
use Rattle.gap_core.proofs.TellingSteps.{all_passed}
use Rattle.gap_core.proofs.searches.tell.Goals as goal

pub returns-clause-added : goal.returns-clause-added
returns-clause-added c = on_ok_weaker c.pass_all.result
    (all_passed (sites_at c.args.sites.now) c.args.index.now c.pass_all.new.index c.args.at c.args.to c.in_ok-sent.sent c.in_ok-sent.ensures)
    c.pass_all.ensures.added
