use Rattle.std.proofs.Common.{◌≡◌, ◌-◌, sym, ap, subst, ◌∙◌}
use Rattle.std.specs.FinMap.{insert}
use Rattle.frame_core.specs.Counts.{count_in, IsLowered, KeepsCounts}
use Rattle.frame_core.specs.Identifiers.{recall_cmp}
use Rattle.frame_core.specs.Tables.{as_map}
use Rattle.frame_core.proofs.Counting.{lowered, counts_stay, has_count}
use Rattle.frame_core.proofs.Maps.{succeeds}
use Rattle.frame_core.proofs.counted_rows.lower.Goals as goal

-- the recall has a count, so that one less was put
put_one_less : (c : goal.After-put) → as_map recall_cmp c.put.new.map ≡ insert (as_map recall_cmp c.args.counts.now) c.args.recall (count_in (as_map recall_cmp c.args.counts.now) c.args.recall - 1)
put_one_less c =
    succeeds c.put.result c.put.ensures.ok c.put.ensures.only_new (has_count (as_map recall_cmp c.args.counts.now) c.args.recall c.requires)
    ∙ ap (λ n. insert (as_map recall_cmp c.args.counts.now) c.args.recall (n - 1)) c.count_of-count.ensures

pub returns-clause-lowered : goal.returns-clause-lowered
returns-clause-lowered c = subst (IsLowered (as_map recall_cmp c.args.counts.now) c.args.recall) (sym (put_one_less c)) (lowered (as_map recall_cmp c.args.counts.now) c.args.recall c.requires)

pub returns-clause-kept : goal.returns-clause-kept
returns-clause-kept c = subst (KeepsCounts (as_map recall_cmp c.args.counts.now)) (sym (put_one_less c)) (counts_stay (as_map recall_cmp c.args.counts.now) c.args.recall _)
