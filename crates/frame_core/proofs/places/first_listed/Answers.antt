use Rattle.std.proofs.Common.{sym, ◌∙◌}
use Rattle.frame_core.proofs.Placing.{none_next, first_next, other_next, is_same, is_other}
use Rattle.frame_core.proofs.places.first_listed.Goals as goal

pub returns-in-None : goal.returns-in-None
returns-in-None c rows h = none_next rows c.args.listed.now c.args.dest c.args.from h c.range.ensures.ordered c.range.result (c.range.ensures.in_range tt) c.in-None.ensures.steps.0

pub returns-then-eq : goal.returns-then-eq
returns-then-eq c rows h = first_next rows c.args.listed.now c.args.dest c.args.from h c.range.ensures.ordered c.range.result (c.range.ensures.in_range tt) c.in-Some.place.now _ _ c.in-Some.ensures.steps (is_same _ _ (sym c.eq.ensures ∙ c.if-eq.true))

pub returns-else-eq : goal.returns-else-eq
returns-else-eq c rows h = other_next rows c.args.listed.now c.args.dest c.args.from h c.range.ensures.ordered c.range.result (c.range.ensures.in_range tt) c.in-Some.place.now _ _ c.in-Some.ensures.steps (is_other _ _ (sym c.eq.ensures ∙ c.if-eq.false))
