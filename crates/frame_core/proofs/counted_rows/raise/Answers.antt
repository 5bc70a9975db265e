use Rattle.std.proofs.Common.{◌≡◌, ◌+◌, sym, ap, subst, ◌∙◌}
use Rattle.std.specs.FinMap.{insert}
use Rattle.frame_core.specs.Counts.{count_in, IsRaised, KeepsCounts}
use Rattle.frame_core.specs.Identifiers.{recall_cmp}
use Rattle.frame_core.specs.Tables.{as_map}
use Rattle.frame_core.proofs.Counting.{raised, counts_stay}
use Rattle.frame_core.proofs.counted_rows.raise.Goals as goal

-- the count that was put is one more
put_one_more : (c : goal.In_ok-put) → as_map recall_cmp c.put.new.map ≡ insert (as_map recall_cmp c.args.counts.now) c.args.recall (count_in (as_map recall_cmp c.args.counts.now) c.args.recall + 1)
put_one_more c = c.in_ok-put.ensures.ok ∙ ap (λ n. insert (as_map recall_cmp c.args.counts.now) c.args.recall (n + 1)) c.count_of-count.ensures

pub returns-clause-ok : goal.returns-clause-ok
returns-clause-ok c = subst (IsRaised (as_map recall_cmp c.args.counts.now) c.args.recall) (sym (put_one_more c)) (raised (as_map recall_cmp c.args.counts.now) c.args.recall)

pub returns-clause-kept : goal.returns-clause-kept
returns-clause-kept c = subst (KeepsCounts (as_map recall_cmp c.args.counts.now)) (sym (put_one_more c)) (counts_stay (as_map recall_cmp c.args.counts.now) c.args.recall _)
