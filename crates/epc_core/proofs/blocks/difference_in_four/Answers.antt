use Rattle.std.proofs.Common.{sym, ◌∙◌, nat_cmp, arith}
use Rattle.epc_core.proofs.BlocksCompared.{last_decides, all_alike}
use Rattle.epc_core.proofs.blocks.difference_in_four.Goals as goal

pub returns-then-place-block : goal.returns-then-place-block
returns-then-place-block c = sym (all_alike c.args.block.now c.args.other.now c.args.place c.requires.same c.if-place-block.true c.requires.alike)

pub returns : goal.returns
returns c =
    let xs = c.args.block.now in
    let ys = c.args.other.now in
    (λ t. nat_cmp (c.number_of_two.ensures t) (c.number_of_two-2.ensures t))
    ∙ last_decides xs ys c.requires.same (λ k. (c.type_inv.block k).fits) (λ k. (c.type_inv.other k).fits) 2 c.args.place (omega arith) c.requires.alike (omega arith)
