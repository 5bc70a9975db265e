use Rattle.site_threads.proofs.Handing.{gets}
use Rattle.site_threads.proofs.desks.Desk.receipt.Goals as goal

pub recv_as-requires-clause-rule : goal.recv_as-requires-clause-rule
recv_as-requires-clause-rule g c = (gets _ _ c.requires.may_listen, λ items views h at. tt)
