use Rattle.std.proofs.Common.{ap, ◌∙◌}
use Rattle.std.proofs.lemmas.Result.{IfOk-weaker}
use Rattle.clap.specs.Simple.{app_of_fields}
use Rattle.command_line.proofs.Assembly.{adds_rule}
use Rattle.command_line.proofs.grammar.convert.Goals as goal

pub returns : goal.returns
returns c =
    let named = ap app_of_fields c.after_help.ensures ∙ ap app_of_fields c.about.ensures ∙ c.new.ensures.app in
    let paths = adds_rule _ _ _ _ _ c.in_ok-arg.ensures c.files.ensures.local named c.files.ensures.rule in
    let json = adds_rule _ _ _ _ _ c.in_ok-arg-2.ensures c.json.ensures.local paths c.json.ensures.rule in
    let lots = adds_rule _ _ _ _ _ c.in_ok-arg-3.ensures c.flag.ensures.local json c.flag.ensures.rule in
    let links = adds_rule _ _ _ _ _ c.in_ok-arg-4.ensures c.flag-2.ensures.local lots c.flag-2.ensures.rule in
    let errors = adds_rule _ _ _ _ _ c.in_ok-arg-5.ensures c.flag-3.ensures.local links c.flag-3.ensures.rule in
    let places = adds_rule _ _ _ _ _ c.in_ok-arg-6.ensures c.places.ensures.local errors c.places.ensures.rule in
    IfOk-weaker c.arg-7.result _ _ (λ command adds. adds_rule _ _ command _ _ adds c.max_bytes.ensures.local places c.max_bytes.ensures.rule) c.arg-7.ensures
