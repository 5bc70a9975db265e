use Rattle.std.proofs.Common.{ap}
use Rattle.std.proofs.lemmas.Result.{IfOk-weaker}
use Rattle.world_core.specs.Worlds.{WorldState}
use Rattle.recall_text.specs.State.{World}
use Rattle.script_core.proofs.running.Running.emit.Goals as goal

pub returns : goal.returns
returns c =
    rw (← c.self.view_is)
    (λ old frame up emits. IfOk-weaker c.send.result _ _
    (λ at h. (h.0, ap (λ (x : WorldState). let w : World = record { sites = c.self.inside.sites; world = x; armed = c.self.inside.armed.items } in w) h.1))
    (c.send.ensures.does old frame up emits))
