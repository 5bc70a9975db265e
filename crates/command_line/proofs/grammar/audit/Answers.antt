use Rattle.std.proofs.lemmas.Result.{IfOk-weaker}
use Rattle.command_line.proofs.Assembly.{adds_rule}
use Rattle.command_line.proofs.grammar.audit.Goals as goal

pub returns : goal.returns
returns c =
    let with1 = adds_rule _ _ _ _ _ c.in_ok-arg.ensures c.flag.ensures.local c.in_ok-on_folder.ensures c.flag.ensures.rule in
    IfOk-weaker c.arg-2.result _ _ (λ command adds. adds_rule _ _ command _ _ adds c.exit_code.ensures.local with1 c.exit_code.ensures.rule) c.arg-2.ensures
