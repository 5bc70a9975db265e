use Rattle.std.proofs.lemmas.Result.{IfOk-weaker}
use Rattle.command_line.proofs.Assembly.{adds_rule}
use Rattle.command_line.proofs.grammar.start.Goals as goal

pub returns : goal.returns
returns c =
    let site = adds_rule _ _ _ _ _ c.in_ok-arg.ensures c.required.ensures.local c.in_ok-on_folder.ensures c.required.ensures.rule in
    let epcs = adds_rule _ _ _ _ _ c.in_ok-arg-2.ensures c.epcs.ensures.local site c.epcs.ensures.rule in
    let from = adds_rule _ _ _ _ _ c.in_ok-arg-3.ensures c.flag.ensures.local epcs c.flag.ensures.rule in
    let dry = adds_rule _ _ _ _ _ c.in_ok-arg-4.ensures c.flag-2.ensures.local from c.flag-2.ensures.rule in
    let inside = adds_rule _ _ _ _ _ c.in_ok-arg-5.ensures c.flag-3.ensures.local dry c.flag-3.ensures.rule in
    let gaps = adds_rule _ _ _ _ _ c.in_ok-arg-6.ensures c.flag-4.ensures.local inside c.flag-4.ensures.rule in
    let sites = adds_rule _ _ _ _ _ c.in_ok-arg-7.ensures c.flag-5.ensures.local gaps c.flag-5.ensures.rule in
    let key = adds_rule _ _ _ _ _ c.in_ok-arg-8.ensures c.key.ensures.local sites c.key.ensures.rule in
    let scan = adds_rule _ _ _ _ _ c.in_ok-arg-9.ensures c.scan.ensures.local key c.scan.ensures.rule in
    IfOk-weaker c.arg-10.result _ _ (λ command adds. adds_rule _ _ command _ _ adds c.max_bytes.ensures.local scan c.max_bytes.ensures.rule) c.arg-10.ensures
