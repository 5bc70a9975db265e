use Rattle.std.proofs.Common.{[], take, Bor}
use Rattle.trace_core.specs.Chains.{sites_at}
use Rattle.trace_core.specs.Sites.{SiteEvents}
use Rattle.gap_core.specs.Adding.{AddsToList, ByOne}
use Rattle.gap_core.specs.Unseen.{IsUnseenBetween}
use Rattle.gap_core.proofs.unseen.unseen_items.Given as goal

-- those of the senders so far
abbrev pub invariant-loop-from : goal.invariant-loop-from
invariant-loop-from l = AddsToList [] l.items.items (ByOne (take l.from-index l.sites) (λ (r : Bor SiteEvents). ByOne (sites_at l.sites) (IsUnseenBetween r.now)))
