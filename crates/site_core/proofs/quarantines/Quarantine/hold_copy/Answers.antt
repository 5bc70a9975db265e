use Rattle.std.proofs.Common.{sym, subst, ◌∙◌}
use Rattle.frame_core.specs.Identifiers.{recall_cmp}
use Rattle.frame_core.specs.Tables.{as_map}
use Rattle.site_core.specs.Quarantines.{HasNoEmptySet}
use Rattle.site_core.proofs.Held.{no_empty_with, with_held}
use Rattle.site_core.proofs.Results.{either_way}
use Rattle.site_core.proofs.quarantines.Quarantine.hold_copy.Goals as goal

pub returns-then-holds-clause-ok : goal.returns-then-holds-clause-ok
returns-then-holds-clause-ok c = sym (with_held c.args.self.now c.args.recall c.args.item.now (sym c.holds.ensures ∙ c.if-holds.true))

pub invariant_of-self : goal.invariant_of-self
invariant_of-self c = (
  either_way c.hold_new.result c.hold_new.ensures.ok c.hold_new.ensures.err
      (λ is. subst HasNoEmptySet (sym is) (no_empty_with (as_map recall_cmp c.self.inside.recalls) c.args.recall c.args.item.now c.self.invariant.0))
      (λ is. subst HasNoEmptySet (sym is) c.self.invariant.0),
  c.hold_new.ensures.index c.self.invariant.1,
)

pub invariant_of-self-2 : goal.invariant_of-self-2
invariant_of-self-2 c = (
  subst HasNoEmptySet (sym c.in_ok-hold_new.ensures.ok) (no_empty_with (as_map recall_cmp c.self.inside.recalls) c.args.recall c.args.item.now c.self.invariant.0),
  c.in_ok-hold_new.ensures.index c.self.invariant.1,
)
