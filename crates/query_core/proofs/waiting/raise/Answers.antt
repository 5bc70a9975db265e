use Rattle.std.proofs.Common.{◌≡◌, ◌+◌, sym, ap, subst, ◌∙◌}
use Rattle.std.specs.FinMap.{insert}
use Rattle.frame_core.specs.Counts.{count_in, IsRaised}
use Rattle.frame_core.specs.Identifiers.{recall_cmp}
use Rattle.frame_core.specs.Tables.{as_map}
use Rattle.frame_core.proofs.Counting.{raised}
use Rattle.query_core.proofs.waiting.raise.Goals as goal

pub returns : goal.returns
returns c =
    let counts = as_map recall_cmp c.args.counts.now in
    let count : c.in_ok-count.count ≡ count_in counts c.args.recall + 1 = c.in_ok-count.ensures ∙ ap (λ n. n + 1) c.count_of.ensures in
    let put : as_map recall_cmp c.put.new.map ≡ insert counts c.args.recall (count_in counts c.args.recall + 1) = c.in_ok-put.ensures.ok ∙ ap (insert counts c.args.recall) count in
    subst (IsRaised counts c.args.recall) (sym put) (raised counts c.args.recall)
