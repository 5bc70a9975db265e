use Rattle.std.proofs.lemmas.Result.{on_ok_weaker}
use Rattle.site_core.proofs.SourcesFound.{covered_uncovered, uncovered_joined}
use Rattle.site_core.proofs.sources.add_uncovered.Goals as goal

pub returns-then-branch : goal.returns-then-branch
returns-then-branch c = covered_uncovered c.args.captured.now c.args.quarantine.now c.args.body.now c.args.found.now (c.in_ok-are_joined_covered.ensures c.if-branch.true)

pub returns : goal.returns
returns c = on_ok_weaker c.add_joined.result (uncovered_joined c.args.captured.now.events c.args.quarantine.now c.args.body.now c.args.found.now c.add_joined.new.found) c.add_joined.ensures
