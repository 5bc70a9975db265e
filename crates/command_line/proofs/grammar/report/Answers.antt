use Rattle.std.proofs.lemmas.Result.{IfOk-weaker}
use Rattle.command_line.proofs.Assembly.{adds_rule}
use Rattle.command_line.proofs.grammar.report.Goals as goal

pub returns : goal.returns
returns c =
    let with1 = adds_rule _ _ _ _ _ c.in_ok-arg.ensures c.required.ensures.local c.in_ok-on_folder.ensures c.required.ensures.rule in
    let with2 = adds_rule _ _ _ _ _ c.in_ok-arg-2.ensures c.brief.ensures.local with1 c.brief.ensures.rule in
    let with3 = adds_rule _ _ _ _ _ c.in_ok-arg-3.ensures c.events.ensures.local with2 c.events.ensures.rule in
    let with4 = adds_rule _ _ _ _ _ c.in_ok-arg-4.ensures c.csv.ensures.local with3 c.csv.ensures.rule in
    let with5 = adds_rule _ _ _ _ _ c.in_ok-arg-5.ensures c.csv_guarded.ensures.local with4 c.csv_guarded.ensures.rule in
    IfOk-weaker c.arg-6.result _ _ (λ command adds. adds_rule _ _ command _ _ adds c.dot.ensures.local with5 c.dot.ensures.rule) c.arg-6.ensures
