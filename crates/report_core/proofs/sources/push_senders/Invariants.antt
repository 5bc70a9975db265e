use Rattle.std.proofs.Common.{take, Bor}
use Rattle.trace_core.specs.Sites.{SiteEvents}
use Rattle.report_core.specs.Sources.{AddsToList, ByOne, SendsTo}
use Rattle.report_core.proofs.sources.push_senders.Given as goal

-- those of the sites so far
abbrev pub invariant-loop-site : goal.invariant-loop-site
invariant-loop-site l = AddsToList l.fn.found.items l.found.items (ByOne (take l.site-index l.sites) (λ (r : Bor SiteEvents). SendsTo l.pair r.now))
