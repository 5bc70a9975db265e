use Rattle.std.proofs.Common.{◌≡◌, ◌++◌, map, sym, append-nil, ap, ◌∙◌, arith}
use Rattle.serde_json.specs.View.{view}
use Rattle.document_convert.specs.Parted.{made_part, of_each}
use Rattle.document_convert.proofs.ByThousands.{more_behind}
use Rattle.document_convert.proofs.parted.push_made.Goals as goal

pub loop-output-init : goal.loop-output-init
loop-output-init c = sym (append-nil (map view c.args.parts.now.items))

pub loop-output-preserved : goal.loop-output-preserved
loop-output-preserved c =
    let d = view c.args.event.now in
    more_behind (map view c.args.parts.now.items) (made_part d c.args.input) c.loop-output.parts.items c.push.new.self.items c.loop-output.output c.in_ok-part.part c.loop-output.invariant
    c.in_ok-push.ensures.items c.in_ok-part.ensures

pub returns : goal.returns
returns c =
    let d = view c.args.event.now in
    let all : c.loop-output.output ≡ c.count_at-count.result = omega (arith, c.loop-output-test.false, c.loop-output.auto.output-end) in
    c.loop-output.invariant ∙ ap (λ n. map view c.args.parts.now.items ++ of_each (made_part d c.args.input) n) (all ∙ c.count_at-count.ensures)
