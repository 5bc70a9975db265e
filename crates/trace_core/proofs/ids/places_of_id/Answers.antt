use Rattle.std.proofs.Common.{sym, ap, ◌∙◌, option_map}
use Rattle.trace_core.specs.Places.{or_none, text_places, id_places}
use Rattle.trace_core.proofs.ids.places_of_id.Goals as goal

pub returns-in-Some-get : goal.returns-in-Some-get
returns-in-Some-get c = c.as_slice.ensures ∙ ap or_none c.in-Some-get.ensures.value ∙ ap (λ t. or_none (text_places c.args.index.now t)) c.as_str.ensures.value
    ∙ ap (λ o. id_places (text_places c.args.index.now) (option_map (λ t. t.now) o)) (sym c.in-Some.is)
