use Rattle.std.proofs.Common.{List, subst}
use Rattle.std.proofs.lemmas.List.{take_all}
use Rattle.site_recovery.specs.Checking.{world_at}
use Rattle.trace_core.specs.declared.pairs.Pair.{Pair}
use Rattle.folder_questions.specs.Missed.{AreHolders}
use Rattle.folder_questions.proofs.MissedLemmas.{one_more_holder}
use Rattle.folder_questions.proofs.missed.with_holders.Goals as goal

pub loop-pair-preserved : goal.loop-pair-preserved
loop-pair-preserved c =
    one_more_holder (world_at c.args.records.now) c.args.pairs.now c.loop-pair.pair-index c.pair-item.result c.loop-pair-test.true c.pair-item.is c.loop-pair.found.items c.push_holder.new.found.items
    c.loop-pair.invariant c.in_ok-push_holder.ensures

pub returns : goal.returns
returns c =
    subst (λ (ps : List Pair). AreHolders (world_at c.args.records.now) ps c.loop-pair.found.items) (take_all c.loop-pair.pair-index c.args.pairs.now c.loop-pair-test.false) c.loop-pair.invariant
