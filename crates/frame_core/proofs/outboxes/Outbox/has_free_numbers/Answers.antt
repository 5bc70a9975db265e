use Rattle.std.proofs.Common.{subst}
use Rattle.std.specs.Prelude.{◌↔◌, IsTrue}
use Rattle.frame_core.specs.Tables.{AreBelow}
use Rattle.frame_core.specs.Unsignalled.{Unsignalled}
use Rattle.frame_core.proofs.outboxes.Outbox.has_free_numbers.Goals as goal

pub returns : goal.returns
returns c = subst (λ (u : Unsignalled). IsTrue c.are_below.result ↔ AreBelow u.rows u.next) c.self.view_is c.are_below.ensures
