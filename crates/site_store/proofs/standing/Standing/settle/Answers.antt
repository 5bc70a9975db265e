use Rattle.std.proofs.Common.{inl, refl}
use Rattle.site_store.proofs.Standings.{found_alone}
use Rattle.site_store.proofs.standing.Standing.settle.Goals as goal

pub invariant_of-self : goal.invariant_of-self
invariant_of-self c = found_alone c.self.inside.state (c.self.invariant c.self.inside.state (inl refl))
