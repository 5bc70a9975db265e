use Rattle.std.proofs.Common.{sym, ◌∙◌, nat_cmp, arith}
use Rattle.epc_core.proofs.BlocksCompared.{word_decides, word_alike}
use Rattle.epc_core.proofs.blocks.difference_in_eight.Goals as goal

pub returns-then-number-other_number : goal.returns-then-number-other_number
returns-then-number-other_number c =
    let xs = c.args.block.now in
    let ys = c.args.other.now in
    let decides = word_decides xs ys c.requires.same (λ k. (c.type_inv.block k).fits) (λ k. (c.type_inv.other k).fits) 4 c.args.place (omega arith) c.requires.alike in
    (λ t. nat_cmp (c.number_of_four-number.ensures t) (c.number_of_four-other_number.ensures t))
    ∙ decides (λ e. c.if-number-other_number.true (c.number_of_four-number.ensures ∙ (e ∙ sym c.number_of_four-other_number.ensures)))

pub difference_in_four-requires-2-clause-alike : goal.difference_in_four-requires-2-clause-alike
difference_in_four-requires-2-clause-alike c =
    let xs = c.args.block.now in
    let ys = c.args.other.now in
    let alike = word_alike xs ys c.requires.same (λ k. (c.type_inv.block k).fits) (λ k. (c.type_inv.other k).fits) 4 c.args.place (omega arith) c.requires.alike in
    alike (sym c.number_of_four-number.ensures ∙ (c.if-number-other_number.false ∙ c.number_of_four-other_number.ensures))
