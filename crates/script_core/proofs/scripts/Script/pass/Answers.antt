use Rattle.std.proofs.Common.{◌≡◌, ap, sym, ◌∙◌}
use Rattle.std.proofs.lemmas.Result.{MatchResult-weaker}
use Rattle.recall_text.specs.State.{running}
use Rattle.recall_text.specs.Steps.{task_of}
use Rattle.script_core.specs.Kept.{state_of}
use Rattle.script_core.specs.State.{begun}
use Rattle.script_core.proofs.MemoryLemmas.{passing}
use Rattle.script_core.proofs.scripts.Script.pass.Goals as goal

pub returns-in-Running-clause-err : goal.returns-in-Running-clause-err
returns-in-Running-clause-err c =
    let same : running c.in-Running.world ≡ begun (state_of c.args.self.now) = ap state_of (sym c.in-Running.is) ∙ c.in_ok-begin.ensures.ok in
    MatchResult-weaker c.answer.result c.answer.ensures.err (λ x held. held) (λ e takes. passing (state_of c.args.self.now) c.in-Running.world (task_of c.args.task) same takes)
