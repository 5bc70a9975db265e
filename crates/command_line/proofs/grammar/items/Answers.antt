use Rattle.std.proofs.lemmas.Result.{IfOk-weaker}
use Rattle.command_line.proofs.Assembly.{adds_rule}
use Rattle.command_line.proofs.grammar.items.Goals as goal

pub returns : goal.returns
returns c =
    let with1 = adds_rule _ _ _ _ _ c.in_ok-arg.ensures c.required.ensures.local c.in_ok-on_folder.ensures c.required.ensures.rule in
    let with2 = adds_rule _ _ _ _ _ c.in_ok-arg-2.ensures c.optional.ensures.local with1 c.optional.ensures.rule in
    let with3 = adds_rule _ _ _ _ _ c.in_ok-arg-3.ensures c.containing.ensures.local with2 c.containing.ensures.rule in
    let with4 = adds_rule _ _ _ _ _ c.in_ok-arg-4.ensures c.key.ensures.local with3 c.key.ensures.rule in
    IfOk-weaker c.arg-5.result _ _ (λ command adds. adds_rule _ _ command _ _ adds c.scan.ensures.local with4 c.scan.ensures.rule) c.arg-5.ensures
