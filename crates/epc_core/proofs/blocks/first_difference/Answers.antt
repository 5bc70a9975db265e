use Rattle.std.proofs.Common.{◌≡◌, ◌+◌, ◌*◌, take, sym, ◌∙◌, subst, nat_cmp, arith}
use Rattle.epc_core.proofs.BlocksCompared.{word_decides, word_alike}
use Rattle.epc_core.proofs.blocks.first_difference.Goals as goal

pub returns-then-number-other_number : goal.returns-then-number-other_number
returns-then-number-other_number c =
    let xs = c.args.block.now in
    let ys = c.args.other.now in
    let low = c.loop-index-test.true in
    let decides = word_decides xs ys c.requires.same (λ k. (c.type_inv.block k).fits) (λ k. (c.type_inv.other k).fits) 8 (8 * c.loop-index.index) (omega arith) c.loop-index.invariant in
    (λ t. nat_cmp (c.number_of_eight-number.ensures t) (c.number_of_eight-other_number.ensures t))
    ∙ decides (λ e. c.if-number-other_number.true (c.number_of_eight-number.ensures ∙ (e ∙ sym c.number_of_eight-other_number.ensures)))

pub loop-index-preserved : goal.loop-index-preserved
loop-index-preserved c =
    let xs = c.args.block.now in
    let ys = c.args.other.now in
    let low = c.loop-index-test.true in
    let alike = word_alike xs ys c.requires.same (λ k. (c.type_inv.block k).fits) (λ k. (c.type_inv.other k).fits) 8 (8 * c.loop-index.index) (omega arith) c.loop-index.invariant in
    let next : 8 * c.loop-index.index + 8 ≡ 8 * (c.loop-index.index + 1) = omega arith in
    subst (λ n. take n xs ≡ take n ys) next (alike (sym c.number_of_eight-number.ensures ∙ (c.if-number-other_number.false ∙ c.number_of_eight-other_number.ensures)))
