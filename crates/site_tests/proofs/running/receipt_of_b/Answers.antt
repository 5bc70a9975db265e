use Rattle.std.proofs.Common.{arith}
use Rattle.site_tests.proofs.Serving.{desk_there, still_settles}
use Rattle.site_tests.proofs.running.receipt_of_b.Goals as goal

pub receipt-requires : goal.receipt-requires
receipt-requires g c =
    desk_there c.args.desks.now.items c.requires.desks.0 1 c.index_mut.result.now c.requires.desks.1 (omega (arith, c.len.ensures, c.args.desks.now.ok.0)) c.index_mut.ensures.value

pub returns : goal.returns
returns g c = record {
  desks = λ lists z. still_settles c.args.desks.now.items lists 1 c.index_mut.result.now c.receipt.new.self (omega (arith, c.len.ensures, c.args.desks.now.ok.0)) c.index_mut.ensures.value c.receipt.ensures.desk.0 c.receipt.ensures.desk.1 z;
}
