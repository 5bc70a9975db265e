use Rattle.std.proofs.Common.{◌≡◌, ◌++◌, ℕ, List, codes, ap, ◌∙◌, arith}
use Rattle.std.specs.List.{flat_map}
use Rattle.serde_json.specs.Data.{Data}
use Rattle.serde_json.specs.View.{view}
use Rattle.document_convert.specs.Parted.{count_at, made_part, numbers, of_each}
use Rattle.document_convert.proofs.ByThousands.{flat_more}
use Rattle.document_convert.proofs.parted.made_of_each.Goals as goal

pub loop-input-preserved : goal.loop-input-preserved
loop-input-preserved c =
    let d = view c.args.event.now in
    let row : ℕ → List Data = λ i. of_each (made_part d i) (count_at (codes "outputEPCList") d) in
    c.in_ok-push_made.ensures ∙ ap (λ (ds : List Data). ds ++ row c.loop-input.input) c.loop-input.invariant ∙ flat_more row c.loop-input.input

pub returns : goal.returns
returns c =
    let d = view c.args.event.now in
    let row : ℕ → List Data = λ i. of_each (made_part d i) (count_at (codes "outputEPCList") d) in
    let all : c.loop-input.input ≡ c.count_at-count.result = omega (arith, c.loop-input-test.false, c.loop-input.auto.input-end) in
    c.loop-input.invariant ∙ ap (λ n. flat_map row (numbers 0 n)) (all ∙ c.count_at-count.ensures)
