use Rattle.std.proofs.Common.{List, subst}
use Rattle.std.proofs.lemmas.List.{take_all}
use Rattle.recall_outcomes.specs.declared.outcomes.MissedPair.{MissedPair}
use Rattle.folder_questions.specs.Missed.{TellsAll}
use Rattle.folder_questions.proofs.MissedLemmas.{tells_more, tells_none}
use Rattle.folder_questions.proofs.missed.tell_held.Goals as goal

pub loop-missed-init : goal.loop-missed-init
loop-missed-init c = tells_none c.args.reached.now

pub loop-missed-preserved : goal.loop-missed-preserved
loop-missed-preserved c =
    tells_more c.args.pairs.now c.loop-missed.missed-index c.missed-item.result c.loop-missed-test.true c.missed-item.is c.args.reached.now c.loop-missed.reached c.tell_if_held.new.reached
    c.loop-missed.invariant c.in_ok-tell_if_held.ensures

pub returns : goal.returns
returns c = subst (λ (ms : List MissedPair). TellsAll ms c.args.reached.now c.loop-missed.reached) (take_all c.loop-missed.missed-index c.args.pairs.now c.loop-missed-test.false) c.loop-missed.invariant
