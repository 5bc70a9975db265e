use Rattle.std.proofs.lemmas.Result.{IfOk-weaker}
use Rattle.command_line.proofs.Assembly.{adds_rule}
use Rattle.command_line.proofs.grammar.gaps.Goals as goal

pub returns : goal.returns
returns c =
    let with1 = adds_rule _ _ _ _ _ c.in_ok-arg.ensures c.optional.ensures.local c.in_ok-on_folder.ensures c.optional.ensures.rule in
    let with2 = adds_rule _ _ _ _ _ c.in_ok-arg-2.ensures c.flag.ensures.local with1 c.flag.ensures.rule in
    IfOk-weaker c.arg-3.result _ _ (λ command adds. adds_rule _ _ command _ _ adds c.flag-2.ensures.local with2 c.flag-2.ensures.rule) c.arg-3.ensures
