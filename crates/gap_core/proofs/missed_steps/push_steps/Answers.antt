use Rattle.std.proofs.Common.{◌≡◌}
use Rattle.std.specs.List.{Contains}
use Rattle.trace_core.specs.declared.pairs.Pair.{Pair}
use Rattle.gap_core.specs.declared.missed_steps.MissedStep.{MissedStep}
use Rattle.gap_core.proofs.Additions.{all_added, one_more}
use Rattle.gap_core.proofs.MissedStepLists.{steps_from}
use Rattle.gap_core.proofs.missed_steps.push_steps.Goals as goal

pub loop-pair-preserved : goal.loop-pair-preserved
loop-pair-preserved c =
    one_more (λ (p : Pair). λ (m : MissedStep). record { from = p; to = c.args.to } ≡ m) c.args.missed.now c.loop-pair.pair-index (Contains c.args.steps.now.items) (Contains c.loop-pair.steps.items) (Contains c.push_step.new.steps.items)
    c.pair-item.result c.loop-pair-test.true c.pair-item.is c.loop-pair.invariant c.in_ok-push_step.ensures

pub returns : goal.returns
returns c =
    steps_from c.args.missed.now c.args.to c.args.steps.now.items c.loop-pair.steps.items
    (all_added (λ (p : Pair). λ (m : MissedStep). record { from = p; to = c.args.to } ≡ m) c.args.missed.now c.loop-pair.pair-index (Contains c.args.steps.now.items) (Contains c.loop-pair.steps.items) c.loop-pair-test.false c.loop-pair.invariant)
