use Rattle.std.proofs.Common.{sym, ◌∙◌}
use Rattle.trace_core.specs.Places.{text_places}
use Rattle.trace_core.proofs.PlaceSteps.{text_found, forgotten_whole, forgotten_part}
use Rattle.trace_core.proofs.ids.forget_text.Goals as goal

pub returns-then-forget_in : goal.returns-then-forget_in
returns-then-forget_in c = forgotten_whole (text_places c.args.index.now) (text_places c.forget_in.new.index) c.args.place c.args.text.now c.forget_in.ensures.left (text_places c.swap_remove.new.self)
    (sym c.forget_in.ensures.emptied ∙ c.if-forget_in.true) (text_found c.forget_in.new.index c.swap_remove.new.self c.args.text.now _ c.swap_remove.ensures.updates)

pub returns-else-forget_in : goal.returns-else-forget_in
returns-else-forget_in c = forgotten_part (text_places c.args.index.now) (text_places c.forget_in.new.index) c.args.place c.args.text.now c.forget_in.ensures.left (sym c.forget_in.ensures.emptied ∙ c.if-forget_in.false)
