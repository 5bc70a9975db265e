use Rattle.std.proofs.Common.{◌∙◌, ap}
use Rattle.item_spellings.specs.Reading.{ai_of, value_of}
use Rattle.item_spellings.proofs.Steps.{in_brackets}
use Rattle.item_spellings.proofs.elements.first_element.Goals as goal

pub returns-else-not-opens-2 : goal.returns-else-not-opens-2
returns-else-not-opens-2 c =
    c.value_of.ensures
    ∙ (ap (value_of c.args.form c.in_ok-ai-in-Bracketed.ai.now) c.tail-in-Bracketed.ensures
    ∙ in_brackets c.args.form c.args.text.now c.in_ok-ai-in-Bracketed.ai.now c.in_ok-ai-in-Bracketed.rest.now c.in-Bracketed.is c.if-not-opens.ensures (c.in_ok-ai-in-Bracketed.ensures ∙ ap ai_of c.tail.ensures) c.if-not-opens-2.ensures)
