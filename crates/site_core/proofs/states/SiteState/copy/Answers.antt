use Rattle.std.proofs.Common.{sym, subst}
use Rattle.site_core.specs.Records.{Record, IsSound}
use Rattle.site_core.proofs.Closed.{closed_same}
use Rattle.site_core.proofs.states.SiteState.copy.Goals as goal

pub invariant_of-result : goal.invariant_of-result
invariant_of-result c = (
  subst IsSound
      (λ i. let r : Record = record { sites = sym c.in_ok-sites.ensures i; captured = sym c.in_ok-captured.ensures i; quarantine = sym c.in_ok-quarantine.ensures i; engagement = sym c.in_ok-diffusion.ensures i } in r)
      c.self.invariant.0,
  c.begun-shortcuts.ensures c.in_ok-captured.captured c.in_ok-quarantine.quarantine
      (λ told. closed_same c.self.inside.captured c.in_ok-captured.captured c.self.inside.quarantine c.in_ok-quarantine.quarantine c.in_ok-captured.ensures c.in_ok-quarantine.ensures (c.self.invariant.1.closed told)),
)
