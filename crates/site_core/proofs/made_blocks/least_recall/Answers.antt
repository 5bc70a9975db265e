use Rattle.std.proofs.Common.{◌≡◌, sym, subst, ◌∙◌, arith}
use Rattle.std.specs.List.{Contains}
use Rattle.std.specs.Vec.Iter.{into_iter_items}
use Rattle.std.proofs.lemmas.List.{nil_from_length}
use Rattle.frame_core.specs.Identifiers.{recall_cmp}
use Rattle.frame_core.specs.Orders.{recall_total}
use Rattle.trace_core.proofs.Members.{contains_here, contains_there}
use Rattle.site_core.specs.Capturing.{IsBlockedBy}
use Rattle.site_core.proofs.Blocks.{next_left, next_least, next_ascends, none_left, stays_joined, told_blocks, told_blocks_not}
use Rattle.site_core.proofs.SentBlocks.{made_listed}
use Rattle.site_core.proofs.made_blocks.least_recall.Goals as goal

pub returns-then-stays_inside : goal.returns-then-stays_inside
returns-then-stays_inside c = λ r b. c.stays_inside.ensures c.if-stays_inside.true r (subst (λ rs. Contains rs r) (sym c.deref.ensures.value) ((c.in_ok-recalls.ensures.exact r).1 b.source)) b

pub returns-then-has_each : goal.returns-then-has_each
returns-then-has_each c = λ r b. stays_joined c.args.captured.now c.args.quarantine.now c.args.event.now c.args.item.now c.args.covering.now.all c.deref-2.result.now c.requires.making c.requires.covers.all
    (sym c.has_each.ensures ∙ c.if-has_each.true) r (subst (λ rs. Contains rs r) (sym c.deref-2.ensures.value) ((c.in_ok-recalls.ensures.exact r).1 b.source)) b

pub returns-then-leads_out : goal.returns-then-leads_out
returns-then-leads_out c =
    let xs = into_iter_items c.loop-recall.recall-iterator in
    let rest = into_iter_items c.next.new.self in
    let next : xs ≡ _ = c.in-Some.ensures.steps.0 in (
      told_blocks c.args.captured.now c.args.quarantine.now c.args.event.now c.args.item.now c.in-Some.recall c.me.result c.deref-in-loop-recall.result.now c.in_ok-targets.targets.items c.me.ensures c.deref-in-loop-recall.ensures.value (made_listed c.args.captured.now c.args.event.now c.args.item.now c.in_ok-targets.targets.items c.requires.making c.in_ok-targets.ensures.exact)
          (c.loop-recall.invariant.holds c.in-Some.recall (subst (λ ys. Contains ys c.in-Some.recall) (sym next) (contains_here c.in-Some.recall rest))) (sym c.leads_out.ensures ∙ c.if-leads_out.true),
      λ other b. next_least (λ r. IsBlockedBy c.args.captured.now c.args.quarantine.now c.args.event.now c.args.item.now r) xs rest c.in-Some.recall next recall_cmp recall_total c.loop-recall.invariant.ascend c.loop-recall.invariant.left other b,
    )

pub loop-recall-preserved : goal.loop-recall-preserved
loop-recall-preserved c =
    let xs = into_iter_items c.loop-recall.recall-iterator in
    let rest = into_iter_items c.next.new.self in
    let next : xs ≡ _ = c.in-Some.ensures.steps.0 in
    record {
      can = c.loop-recall.invariant.can;
      finite = c.loop-recall.invariant.finite;
      ascend = next_ascends (λ r. IsBlockedBy c.args.captured.now c.args.quarantine.now c.args.event.now c.args.item.now r) xs rest c.in-Some.recall next recall_cmp c.loop-recall.invariant.ascend;
      holds = λ r there. c.loop-recall.invariant.holds r (subst (λ ys. Contains ys r) (sym next) (contains_there c.in-Some.recall r rest there));
      left = next_left (λ r. IsBlockedBy c.args.captured.now c.args.quarantine.now c.args.event.now c.args.item.now r) xs rest c.in-Some.recall next
          (told_blocks_not c.args.captured.now c.args.quarantine.now c.args.event.now c.args.item.now c.in-Some.recall c.me.result c.deref-in-loop-recall.result.now c.in_ok-targets.targets.items c.me.ensures c.deref-in-loop-recall.ensures.value (made_listed c.args.captured.now c.args.event.now c.args.item.now c.in_ok-targets.targets.items c.requires.making c.in_ok-targets.ensures.exact) (sym c.leads_out.ensures ∙ c.if-leads_out.false))
          c.loop-recall.invariant.left;
    }

pub returns : goal.returns
returns c = none_left (λ r. IsBlockedBy c.args.captured.now c.args.quarantine.now c.args.event.now c.args.item.now r) (into_iter_items c.loop-recall.recall-iterator)
    (nil_from_length (into_iter_items c.loop-recall.recall-iterator) (omega (arith, c.in-None.ensures.steps.0))) c.loop-recall.invariant.left
