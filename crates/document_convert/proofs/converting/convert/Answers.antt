use Rattle.std.proofs.Common.{[], ap, ◌∙◌}
use Rattle.serde_json.specs.View.{view}
use Rattle.document_convert.specs.Texts.{value_of}
use Rattle.document_convert.proofs.ConvertLemmas.{whole_text}
use Rattle.document_convert.proofs.converting.convert.Goals as goal

pub returns-in_ok-push_value-in-Some : goal.returns-in_ok-push_value-in-Some
returns-in_ok-push_value-in-Some c =
    whole_text c.args.ways c.args.sites.now c.args.text.now (view c.in-Some.value) c.push_value.new.self ((rw c.in-Some.is at c.in_ok-value.ensures) ∙ ap value_of c.unmarked-text.ensures)
    (c.in_ok-push_value-in-Some.ensures [] (c.new-converted.ensures c.args.ways c.args.sites.now))
