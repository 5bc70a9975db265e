use Rattle.std.proofs.Common.{◌+◌, option_map, sym, subst, take, arith}
use Rattle.site_core.specs.SentBlocks.{IsHeldAway}
use Rattle.site_core.proofs.SentBlocks.{IsLeastAway, none_yet, passed_over, one_more_away, all_of_them, least_away}
use Rattle.site_core.proofs.sent_blocks.least_sent.Goals.{in-Some, in_default}
use Rattle.site_core.proofs.sent_blocks.least_sent.Goals as goal

pub loop-sending-init : goal.loop-sending-init
loop-sending-init c = none_yet c.args.captured.now c.args.quarantine.now

pub loop-sending-preserved : goal.loop-sending-preserved
loop-sending-preserved c =
    let s = c.args.captured.now in
    let q = c.args.quarantine.now in
    let sendings = c.last_sent-sending-items.result.now in
    let place = c.loop-sending.sending-index in
    let o = option_map (λ i. i.now) c.loop-sending.least in
    elim c.match-held_away.branch as (λ _. IsLeastAway s q (take (place + 1) sendings) (option_map (λ i. i.now) c.match-held_away.least)) [
      | in-Some w ↦ subst (λ l. IsLeastAway s q (take (place + 1) sendings) (option_map (λ i. i.now) l)) (sym w.least-is)
          (one_more_away s q sendings place c.sending-item.result c.loop-sending-test.true c.sending-item.is o w.in-Some.item.now w.lesser.result.now w.in-Some.ensures w.lesser.ensures c.loop-sending.invariant)
      | in_default w ↦ subst (λ l. IsLeastAway s q (take (place + 1) sendings) (option_map (λ i. i.now) l)) (sym w.least-is)
          (passed_over s q sendings place c.sending-item.result c.loop-sending-test.true c.sending-item.is o
          (subst (λ l. IsHeldAway s q c.sending-item.result (option_map (λ i. i.now) l)) w.in_default.is c.held_away.ensures) c.loop-sending.invariant)
    ]

pub returns : goal.returns
returns c = λ before e are.
    least_away c.args.captured.now c.args.quarantine.now before e are c.last_sent-sending-items.result.now (c.last_sent-sending-items.ensures.new before e are) (option_map (λ i. i.now) c.loop-sending.least)
    (all_of_them c.args.captured.now c.args.quarantine.now c.last_sent-sending-items.result.now c.loop-sending.sending-index (option_map (λ i. i.now) c.loop-sending.least) (omega arith) c.loop-sending.invariant)
