use Rattle.std.proofs.Common.{ap, ◌∙◌}
use Rattle.std.proofs.lemmas.Result.{IfOk-weaker}
use Rattle.clap.specs.Simple.{app_of_fields}
use Rattle.command_line.proofs.Assembly.{adds_rule}
use Rattle.command_line.proofs.grammar.on_folder.Goals as goal

pub returns : goal.returns
returns c =
    let named = ap app_of_fields c.after_help.ensures ∙ ap app_of_fields c.about.ensures ∙ c.new.ensures.app in
    let folder = adds_rule _ _ _ _ _ c.in_ok-arg.ensures c.folder.ensures.local named c.folder.ensures.rule in
    let json = adds_rule _ _ _ _ _ c.in_ok-arg-2.ensures c.json.ensures.local folder c.json.ensures.rule in
    IfOk-weaker c.arg-3.result _ _ (λ command adds. adds_rule _ _ command _ _ adds c.wait.ensures.local json c.wait.ensures.rule) c.arg-3.ensures
