use Rattle.std.proofs.Common.{sym, ap, subst, ◌∙◌}
use Rattle.std.specs.List.{list_any}
use Rattle.trace_core.specs.Spreads.{ins_in}
use Rattle.site_core.specs.Joined.{TakesHeldAt}
use Rattle.site_core.specs.Quarantines.{held}
use Rattle.site_core.proofs.joined.takes_held_at.Goals as goal

pub returns-in-Some : goal.returns-in-Some
returns-in-Some c = λ yes. subst (λ o. TakesHeldAt o c.args.quarantine.now c.args.recall) c.in-Some.ensures
    (ap (λ b. list_any (λ i. held c.args.quarantine.now c.args.recall i) (ins_in b)) (sym c.body.ensures.value) ∙ sym c.takes_held.ensures ∙ yes)
