use Rattle.std.proofs.Common.{◌≡◌, ap, ◌∙◌, arith}
use Rattle.std.specs.FinMap.{get-empty}
use Rattle.std.specs.Prelude.{unwrap_or}
use Rattle.frame_core.specs.Counts.{count_in}
use Rattle.frame_core.specs.Identifiers.{recall_cmp}
use Rattle.frame_core.specs.Outboxes.{rows_of}
use Rattle.frame_core.specs.Tables.{as_map}
use Rattle.frame_core.proofs.Maps.{no_entries}
use Rattle.query_core.proofs.stuck.add_stuck.Goals as goal

pub add_engaged-requires : goal.add_engaged-requires
add_engaged-requires c recall =
    let none : count_in (as_map recall_cmp c.new-counts.result) recall ≡ 0 =
    ap (λ m. count_in m recall) (no_entries c.new-counts.result c.new-counts.ensures.empty) ∙ ap (λ o. unwrap_or o 0) (get-empty recall_cmp recall) in
    omega (arith, c.in_ok-count_rows.ensures recall, none, ap (λ m. rows_of m recall) c.outbox.ensures.outbox)

pub add_own-requires : goal.add_own-requires
add_own-requires c recall =
    let none : count_in (as_map recall_cmp c.new-counts.result) recall ≡ 0 =
    ap (λ m. count_in m recall) (no_entries c.new-counts.result c.new-counts.ensures.empty) ∙ ap (λ o. unwrap_or o 0) (get-empty recall_cmp recall) in
    omega (arith, c.in_ok-count_rows.ensures recall, none, ap (λ m. rows_of m recall) c.outbox.ensures.outbox)
