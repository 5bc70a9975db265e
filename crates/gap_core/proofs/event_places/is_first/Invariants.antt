use Rattle.std.proofs.Common.{◌≡◌, Some, slice_get}
use Rattle.trace_core.specs.Chains.{sites_at}
use Rattle.trace_core.specs.Sites.{SiteEvents}
use Rattle.gap_core.proofs.LineEventSteps.{NoneBefore}
use Rattle.gap_core.proofs.event_places.is_first.Given as goal

-- none so far has the number
abbrev pub invariant-loop-place : goal.invariant-loop-place
invariant-loop-place l = (s : SiteEvents) → slice_get (sites_at l.sites) l.at ≡ Some s → NoneBefore (sites_at l.sites) s.me l.place
