use Rattle.std.proofs.Common.{sym, subst}
use Rattle.site_core.specs.Records.{Record, IsSound}
use Rattle.site_core.proofs.Records.{fresh_is_sound}
use Rattle.site_core.proofs.states.SiteState.new.Goals as goal

pub invariant_of-result : goal.invariant_of-result
invariant_of-result c = (
  subst IsSound
      (λ i. let r : Record = record { sites = c.args.sites; captured = sym c.new.ensures i; quarantine = sym c.new-quarantine.ensures i; engagement = sym c.new-2.ensures i } in r)
      (fresh_is_sound c.args.sites c.args.me c.requires.of_the_list),
  c.new-shortcuts.ensures c.new.result,
)
