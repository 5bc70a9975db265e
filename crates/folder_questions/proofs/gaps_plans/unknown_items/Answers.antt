use Rattle.std.proofs.Common.{ℕ, List, subst}
use Rattle.std.proofs.lemmas.List.{take_all}
use Rattle.site_recovery.specs.Checking.{records_at}
use Rattle.folder_questions.specs.GapsPlans.{AreUnknownAt}
use Rattle.folder_questions.proofs.GapsPlanLemmas.{unknown_more}
use Rattle.folder_questions.proofs.gaps_plans.unknown_items.Goals as goal

pub loop-item-preserved : goal.loop-item-preserved
loop-item-preserved c =
    unknown_more (records_at c.args.records.now) c.args.site c.args.items.now c.loop-item.item-index c.item-item.result c.loop-item-test.true c.item-item.is c.loop-item.unknown.items c.push_unknown.new.unknown.items
    c.loop-item.invariant c.in_ok-push_unknown.ensures

pub returns : goal.returns
returns c =
    subst (λ (is : List (List ℕ)). AreUnknownAt (records_at c.args.records.now) c.args.site is c.loop-item.unknown.items) (take_all c.loop-item.item-index c.args.items.now c.loop-item-test.false) c.loop-item.invariant
