use Rattle.std.proofs.Common.{ap, ◌∙◌}
use Rattle.trace_core.specs.SiteSets.{has_site}
use Rattle.trace_core.proofs.SiteSetSteps.{out_of}
use Rattle.trace_core.proofs.site_sets.SiteSet.at.Goals as goal
use Rattle.trace_core.proofs.site_sets.SiteSet.at.Goals.{in_default-via-in-Some+else-has, in_default-via-in_default}

pub returns-in_default-clause-some : goal.returns-in_default-clause-some
returns-in_default-clause-some c =
    elim c.in_default.branch [
      | in_default-via-in-Some+else-has w ↦ w.if-has.ensures ∙ ap (has_site c.args.self) w.in-Some.ensures.value
      | in_default-via-in_default w ↦ out_of c.args.self c.args.number w.in_default.ensures.some.1
    ]
