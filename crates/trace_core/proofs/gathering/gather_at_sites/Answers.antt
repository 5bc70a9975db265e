use Rattle.std.proofs.Common.{sym}
use Rattle.trace_core.proofs.GatheringSteps.{at_no_site, at_one_more, at_none_more}
use Rattle.trace_core.proofs.gathering.gather_at_sites.Goals as goal
use Rattle.trace_core.proofs.gathering.gather_at_sites.Goals.{in-Some+in_ok-gather_elsewhere, in_default}

pub loop-number-init : goal.loop-number-init
loop-number-init c = at_no_site c.args.pairs.now c.args.me c.args.item.now c.args.sites

pub loop-number-preserved : goal.loop-number-preserved
loop-number-preserved c =
    elim c.match-at.branch [
      | in-Some+in_ok-gather_elsewhere w ↦ λ p. rw w.pairs-is (at_one_more c.args.pairs.now c.loop-number.pairs c.args.me c.args.item.now c.args.sites c.loop-number.number w.gather_elsewhere.new.pairs w.in-Some.site (sym w.in-Some.ensures.some) w.in-Some.ensures.value c.loop-number.invariant w.in_ok-gather_elsewhere.ensures p)
      | in_default w ↦ λ p. rw w.pairs-is (at_none_more c.args.pairs.now c.loop-number.pairs c.args.me c.args.item.now c.args.sites c.loop-number.number (sym w.in_default.ensures.some) c.loop-number.invariant p)
    ]
