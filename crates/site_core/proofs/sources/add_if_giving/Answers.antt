use Rattle.std.proofs.Common.{sym, ◌∙◌}
use Rattle.std.proofs.lemmas.Result.{on_ok_weaker}
use Rattle.site_core.proofs.SourcesFound.{giving_joined, giving_nothing}
use Rattle.site_core.proofs.sources.add_if_giving.Goals as goal

pub returns-then-has_outputs : goal.returns-then-has_outputs
returns-then-has_outputs c = on_ok_weaker c.add_uncovered.result (giving_joined c.args.captured.now.events c.args.quarantine.now c.args.body.now c.args.found.now c.add_uncovered.new.found) c.add_uncovered.ensures

pub returns-else-has_outputs : goal.returns-else-has_outputs
returns-else-has_outputs c = giving_nothing c.args.captured.now.events c.args.quarantine.now c.args.body.now c.args.found.now c.args.found.now (sym c.has_outputs.ensures ∙ c.if-has_outputs.false)
