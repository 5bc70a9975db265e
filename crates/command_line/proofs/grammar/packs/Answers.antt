use Rattle.std.proofs.lemmas.Result.{IfOk-weaker}
use Rattle.command_line.proofs.Assembly.{adds_rule}
use Rattle.command_line.proofs.grammar.packs.Goals as goal

pub returns : goal.returns
returns c =
    let site = adds_rule _ _ _ _ _ c.in_ok-arg.ensures c.of_site.ensures.local c.in_ok-on_folder.ensures c.of_site.ensures.rule in
    IfOk-weaker c.arg-2.result _ _ (λ command adds. adds_rule _ _ command _ _ adds c.flag.ensures.local site c.flag.ensures.rule) c.arg-2.ensures
