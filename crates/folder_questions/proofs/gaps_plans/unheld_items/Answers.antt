use Rattle.std.proofs.Common.{ap, ◌∙◌}
use Rattle.std.proofs.lemmas.List.{take_all}
use Rattle.folder_questions.specs.GapsPlans.{unheld, unheld_at}
use Rattle.folder_questions.proofs.PlanLemmas.{flat_more}
use Rattle.folder_questions.proofs.gaps_plans.unheld_items.Goals as goal

pub loop-missed-preserved : goal.loop-missed-preserved
loop-missed-preserved c =
    flat_more (unheld c.args.site) c.args.pairs.now c.loop-missed.missed-index c.missed-item.result c.loop-missed-test.true c.missed-item.is c.loop-missed.items.items c.push_unheld.new.items.items
    c.loop-missed.invariant c.in_ok-push_unheld.ensures

pub returns : goal.returns
returns c = c.loop-missed.invariant ∙ ap (unheld_at c.args.site) (take_all c.loop-missed.missed-index c.args.pairs.now c.loop-missed-test.false)
