use Rattle.std.proofs.Common.{◌≡◌, [], ap, ◌∙◌, arith}
use Rattle.serde_json.specs.View.{view}
use Rattle.document_convert.specs.Parted.{of_each, with_thousand}
use Rattle.document_convert.proofs.ByThousands.{more_behind}
use Rattle.document_convert.proofs.parted.listed_each.Goals as goal

pub loop-number-preserved : goal.loop-number-preserved
loop-number-preserved c =
    let d = view c.args.event.now in
    let name = c.args.name.now in
    more_behind [] (λ k. with_thousand d name k d) c.loop-number.parts.items c.push.new.self.items c.loop-number.number c.in_ok-part.part c.loop-number.invariant c.in_ok-push.ensures.items
    c.in_ok-part.ensures

pub returns : goal.returns
returns c =
    let d = view c.args.event.now in
    let name = c.args.name.now in
    let all : c.loop-number.number ≡ c.count_at-count.result = omega (arith, c.loop-number-test.false, c.loop-number.auto.number-end) in
    c.loop-number.invariant ∙ ap (of_each (λ k. with_thousand d name k d)) (all ∙ c.count_at-count.ensures)
