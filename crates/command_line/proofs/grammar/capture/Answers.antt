use Rattle.std.proofs.lemmas.Result.{IfOk-weaker}
use Rattle.command_line.proofs.Assembly.{adds_rule}
use Rattle.command_line.proofs.grammar.capture.Goals as goal

pub returns : goal.returns
returns c =
    let site = adds_rule _ _ _ _ _ c.in_ok-arg.ensures c.required.ensures.local c.in_ok-on_folder.ensures c.required.ensures.rule in
    let files = adds_rule _ _ _ _ _ c.in_ok-arg-2.ensures c.files.ensures.local site c.files.ensures.rule in
    let lines = adds_rule _ _ _ _ _ c.in_ok-arg-3.ensures c.lines.ensures.local files c.lines.ensures.rule in
    let each = adds_rule _ _ _ _ _ c.in_ok-arg-4.ensures c.each.ensures.local lines c.each.ensures.rule in
    IfOk-weaker c.arg-5.result _ _ (λ command adds. adds_rule _ _ command _ _ adds c.max_bytes.ensures.local each c.max_bytes.ensures.rule) c.arg-5.ensures
