use Rattle.std.proofs.Common.{ap}
use Rattle.std.proofs.lemmas.Result.{on_ok_weaker}
use Rattle.world_core.specs.Worlds.{WorldState}
use Rattle.recall_text.specs.State.{World}
use Rattle.script_core.proofs.running.Running.open.Goals as goal

pub returns : goal.returns
returns c =
    rw (← c.self.view_is)
    (λ r there. on_ok_weaker c.reopen.result
    (λ h. ap (λ (x : WorldState). let w : World = record { sites = c.self.inside.sites; world = x; armed = c.self.inside.armed.items } in w) h)
    (c.reopen.ensures.does r there))
