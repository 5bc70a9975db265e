use Rattle.site_threads.proofs.Handing.{sends}
use Rattle.site_threads.proofs.desks.DeskOut.tell.Goals as goal

pub send_as-requires-clause-rule : goal.send_as-requires-clause-rule
send_as-requires-clause-rule g c = (sends _ _ _ _ c.requires.may_tell, λ items views h at. tt)
