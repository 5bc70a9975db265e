use Rattle.std.proofs.Common.{arith}
use Rattle.site_tests.proofs.Serving.{one_of_them}
use Rattle.site_tests.proofs.running.first_of_b.Goals as goal

pub receipt-requires : goal.receipt-requires
receipt-requires g c = one_of_them c.args.desks.items 1 c.index_mut.result.now c.requires (omega (arith, c.len.ensures, c.args.desks.ok.0)) c.index_mut.ensures.value
