use Rattle.std.proofs.lemmas.Result.{IfOk-weaker}
use Rattle.command_line.proofs.Assembly.{adds_rule}
use Rattle.command_line.proofs.grammar.trace.Goals as goal

pub returns : goal.returns
returns c =
    let with1 = adds_rule _ _ _ _ _ c.in_ok-arg.ensures c.required.ensures.local c.in_ok-on_folder.ensures c.required.ensures.rule in
    let with2 = adds_rule _ _ _ _ _ c.in_ok-arg-2.ensures c.required-2.ensures.local with1 c.required-2.ensures.rule in
    let with3 = adds_rule _ _ _ _ _ c.in_ok-arg-3.ensures c.flag.ensures.local with2 c.flag.ensures.rule in
    let with4 = adds_rule _ _ _ _ _ c.in_ok-arg-4.ensures c.flag-2.ensures.local with3 c.flag-2.ensures.rule in
    let with5 = adds_rule _ _ _ _ _ c.in_ok-arg-5.ensures c.brief.ensures.local with4 c.brief.ensures.rule in
    let with6 = adds_rule _ _ _ _ _ c.in_ok-arg-6.ensures c.events.ensures.local with5 c.events.ensures.rule in
    let with7 = adds_rule _ _ _ _ _ c.in_ok-arg-7.ensures c.csv.ensures.local with6 c.csv.ensures.rule in
    let with8 = adds_rule _ _ _ _ _ c.in_ok-arg-8.ensures c.csv_guarded.ensures.local with7 c.csv_guarded.ensures.rule in
    let with9 = adds_rule _ _ _ _ _ c.in_ok-arg-9.ensures c.dot.ensures.local with8 c.dot.ensures.rule in
    let with10 = adds_rule _ _ _ _ _ c.in_ok-arg-10.ensures c.key.ensures.local with9 c.key.ensures.rule in
    IfOk-weaker c.arg-11.result _ _ (λ command adds. adds_rule _ _ command _ _ adds c.scan.ensures.local with10 c.scan.ensures.rule) c.arg-11.ensures
