use Rattle.std.proofs.Common.{ap, ◌∙◌}
use Rattle.std.specs.Ordering.{nat_cmp}
use Rattle.std.specs.FinMap.{entries}
use Rattle.frame_core.proofs.Maps.{map_entries}
use Rattle.frame_core.proofs.outboxes.Outbox.rows.Goals as goal

pub returns-clause-entries : goal.returns-clause-entries
returns-clause-entries c = map_entries nat_cmp c.by_number-rows.result.now c.len-length.ensures.ordered ∙ ap entries c.by_number-rows.ensures ∙ ap (λ u. entries u.rows) c.self.view_is
