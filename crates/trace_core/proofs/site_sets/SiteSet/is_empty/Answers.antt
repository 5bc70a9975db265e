use Rattle.std.proofs.Common.{sym, ap, ◌∙◌, eqb-true}
use Rattle.trace_core.specs.SiteSets.{has_site}
use Rattle.trace_core.proofs.SiteSetSteps.{none_has}
use Rattle.trace_core.proofs.site_sets.SiteSet.is_empty.Goals as goal

pub returns : goal.returns
returns c empty t = ap (λ m. has_site m t) (sym c.self.view_is ∙ eqb-true c.self.inside.mask 0 empty) ∙ none_has t
