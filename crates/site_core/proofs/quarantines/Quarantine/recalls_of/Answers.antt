use Rattle.std.proofs.Common.{ap, ◌∙◌}
use Rattle.frame_core.proofs.Maps.{lent_value}
use Rattle.site_core.specs.HeldIndex.{has}
use Rattle.site_core.specs.Quarantines.{held}
use Rattle.site_core.proofs.quarantines.Quarantine.recalls_of.Goals as goal

pub returns : goal.returns
returns c r = ap (λ o. has o r) (lent_value c.get.result ∙ c.get.ensures.value) ∙ c.self.invariant.1 c.args.item.now r ∙ ap (λ q. held q r c.args.item.now) c.self.view_is
