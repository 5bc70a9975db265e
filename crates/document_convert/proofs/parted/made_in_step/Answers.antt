use Rattle.std.proofs.Common.{◌≡◌, [], max, ap, ◌∙◌, arith}
use Rattle.serde_json.specs.View.{view}
use Rattle.document_convert.specs.Parted.{made_part, of_each}
use Rattle.document_convert.proofs.ByThousands.{more_behind}
use Rattle.document_convert.proofs.parted.made_in_step.Goals as goal

pub loop-number-preserved : goal.loop-number-preserved
loop-number-preserved c =
    let d = view c.args.event.now in
    more_behind [] (λ k. made_part d k k) c.loop-number.parts.items c.push.new.self.items c.loop-number.number c.in_ok-part.part c.loop-number.invariant c.in_ok-push.ensures.items
    c.in_ok-part.ensures

pub returns : goal.returns
returns c =
    let d = view c.args.event.now in
    let all : c.loop-number.number ≡ c.max-count.result = omega (arith, c.loop-number-test.false, c.loop-number.auto.number-end) in
    c.loop-number.invariant
    ∙ ap (of_each (λ k. made_part d k k)) (all ∙ c.max-count.ensures ∙ (λ i. max (c.count_at-ins.ensures i) (c.count_at-outs.ensures i)))
