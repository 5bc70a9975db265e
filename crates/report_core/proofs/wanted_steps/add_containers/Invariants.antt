use Rattle.std.proofs.Common.{take, Bor}
use Rattle.trace_core.specs.Searches.{IsFound}
use Rattle.trace_core.specs.Sites.{SiteEvents}
use Rattle.site_core.specs.ItemSets.{item_cmp}
use Rattle.report_core.specs.FirstPlaces.{IsContainerAt}
use Rattle.report_core.specs.Sources.{AddsTo, ByOne}
use Rattle.report_core.proofs.wanted_steps.add_containers.Given as goal

-- those of the sites so far
abbrev pub invariant-loop-site : goal.invariant-loop-site
invariant-loop-site l = AddsTo (IsFound item_cmp l.fn.items) (IsFound item_cmp l.items) (ByOne (take l.site-index l.sites) (λ (r : Bor SiteEvents). IsContainerAt r.now))
