use Rattle.site_folders.proofs.CallsInTurn.{ok_so}
use Rattle.site_folders.proofs.refusals.no_site.Goals as goal

pub returns : goal.returns
returns c = ok_so c.refusal.result (λ o is. (c.in_ok-name.name, c.in_ok-name.ensures.ok, is)) c.refusal.ensures
