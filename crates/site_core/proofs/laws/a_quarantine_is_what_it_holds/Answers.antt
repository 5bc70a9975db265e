use Rattle.site_core.proofs.HeldLaws.{held_is_all}
use Rattle.site_core.proofs.laws.a_quarantine_is_what_it_holds.Goals as goal

pub returns : goal.returns
returns c = held_is_all
