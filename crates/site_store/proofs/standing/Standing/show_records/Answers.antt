use Rattle.std.proofs.Common.{subst}
use Rattle.site_store.specs.Standing.{AreFound}
use Rattle.site_store.proofs.standing.Standing.show_records.Goals as goal

pub returns : goal.returns
returns c = subst AreFound c.self.view_is c.self.invariant
