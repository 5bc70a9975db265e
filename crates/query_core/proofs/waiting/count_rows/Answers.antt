use Rattle.std.proofs.Common.{ap, ◌∙◌, ◌+◌}
use Rattle.std.specs.Ordering.{nat_cmp}
use Rattle.frame_core.specs.Counts.{count_in}
use Rattle.frame_core.specs.Identifiers.{recall_cmp, same_recall}
use Rattle.frame_core.specs.Tables.{as_map}
use Rattle.frame_core.proofs.Counting.{counting_goes_on}
use Rattle.frame_core.proofs.Deficits.{passing}
use Rattle.frame_core.proofs.Maps.{map_entries}
use Rattle.query_core.proofs.waiting.count_rows.Goals as goal

pub loop-row-init : goal.loop-row-init
loop-row-init c r =
    ap (λ es. count_in (as_map recall_cmp c.args.counts.now) r + passing (λ row. same_recall row.recall r) es)
    (c.into_iter-row-iterator.ensures.into_iter_gives.0 ∙ map_entries nat_cmp c.args.rows.now c.into_iter-row-iterator.ensures.into_iter_gives.5)

pub loop-row-preserved : goal.loop-row-preserved
loop-row-preserved c r =
    counting_goes_on (as_map recall_cmp c.loop-row.counts) (as_map recall_cmp c.raise.new.counts) _ c.next.new.self c.loop-row.row-iterator _ r (c.loop-row.invariant r) c.in-Some.ensures.steps c.in_ok-raise.ensures
