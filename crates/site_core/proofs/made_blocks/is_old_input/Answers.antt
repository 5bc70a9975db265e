use Rattle.std.proofs.Common.{inl, inr, sym, ◌∙◌}
use Rattle.site_core.proofs.Blocks.{no_part}
use Rattle.site_core.proofs.made_blocks.is_old_input.Goals as goal

pub returns-then-part_count-eq0 : goal.returns-then-part_count-eq0
returns-then-part_count-eq0 c = λ yes. inr (no_part c.args.captured.now.events c.args.id.now (sym c.part_count.ensures ∙ c.if-part_count-eq0.true))

pub returns-else-part_count-eq0 : goal.returns-else-part_count-eq0
returns-else-part_count-eq0 c = λ yes. inl (c.is_part_input.ensures.0 yes)
