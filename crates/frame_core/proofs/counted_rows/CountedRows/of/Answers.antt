use Rattle.std.proofs.Common.{length, ap, ◌∙◌, arith}
use Rattle.std.specs.Ordering.{nat_cmp}
use Rattle.frame_core.specs.Identifiers.{recall_cmp}
use Rattle.frame_core.specs.Tables.{as_map}
use Rattle.frame_core.proofs.Counting.{few_rows, counting_begins, counting_goes_on}
use Rattle.frame_core.proofs.Maps.{map_entries, no_entries}
use Rattle.frame_core.proofs.counted_rows.CountedRows.of.Goals as goal

pub loop-row-init : goal.loop-row-init
loop-row-init c r =
    counting_begins (as_map nat_cmp c.args.rows) (as_map recall_cmp c.new-counts.result) c.into_iter-row-iterator.result (no_entries c.new-counts.result c.new-counts.ensures.empty)
    (c.into_iter-row-iterator.ensures.into_iter_gives.0 ∙ map_entries nat_cmp c.args.rows c.into_iter-row-iterator.ensures.into_iter_gives.5) r

pub raise-requires : goal.raise-requires
raise-requires c = omega (arith, c.loop-row.invariant c.in-Some.row.now.recall, few_rows (as_map nat_cmp c.args.rows) c.in-Some.row.now.recall, ap length (map_entries nat_cmp c.args.rows c.into_iter-row-iterator.ensures.into_iter_gives.5), c.into_iter-row-iterator.ensures.into_iter_gives.1)

pub loop-row-preserved : goal.loop-row-preserved
loop-row-preserved c r =
    counting_goes_on (as_map recall_cmp c.loop-row.counts) (as_map recall_cmp c.raise.new.counts) _ c.next.new.self c.loop-row.row-iterator _ r (c.loop-row.invariant r) c.in-Some.ensures.steps c.in_ok-raise.ensures.ok
