use Rattle.std.proofs.Common.{◌≡◌, ◌*◌, min, length, arith}
use Rattle.document_convert.proofs.ByThousands.{thousand_cut}
use Rattle.document_convert.proofs.thousands.thousand.Goals as goal

pub returns : goal.returns
returns c =
    let start : c.min-start.result ≡ min (c.args.number * 1000) (length c.args.list.now) = omega (arith, c.saturating_mul.ensures, c.min-start.ensures) in
    thousand_cut c.args.number c.min-start.result c.min.result c.args.list.now start c.min.ensures
