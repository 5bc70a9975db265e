use Rattle.std.proofs.lemmas.Result.{IfOk-weaker}
use Rattle.command_line.proofs.Assembly.{adds_rule}
use Rattle.command_line.proofs.grammar.copy.Goals as goal

pub returns : goal.returns
returns c =
    IfOk-weaker c.arg.result _ _
    (λ command adds. adds_rule _ _ command _ _ adds c.required.ensures.local c.in_ok-on_folder.ensures c.required.ensures.rule)
    c.arg.ensures
