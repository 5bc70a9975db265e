use Rattle.std.proofs.Common.{ap, ◌∙◌}
use Rattle.std.specs.FinMap.{get-empty}
use Rattle.std.specs.Prelude.{unwrap_or}
use Rattle.frame_core.specs.Counts.{count_in}
use Rattle.frame_core.specs.Identifiers.{recall_cmp}
use Rattle.frame_core.proofs.Maps.{no_entries}
use Rattle.query_core.proofs.waiting.waiting_counts.Goals as goal

pub loop-state-init : goal.loop-state-init
loop-state-init c recall = ap (λ m. count_in m recall) (no_entries c.new-counts.result c.new-counts.ensures.empty) ∙ ap (λ o. unwrap_or o 0) (get-empty recall_cmp recall)
