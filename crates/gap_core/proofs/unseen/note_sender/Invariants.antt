use Rattle.std.proofs.Common.{take, Bor}
use Rattle.trace_core.specs.Sites.{SiteEvents}
use Rattle.gap_core.specs.Adding.{AddsToList, ByOne}
use Rattle.gap_core.specs.Unseen.{IsUnseenBetween}
use Rattle.gap_core.proofs.unseen.note_sender.Given as goal

-- those that went to the sites so far
abbrev pub invariant-loop-to : goal.invariant-loop-to
invariant-loop-to l = AddsToList l.fn.items.items l.items.items (ByOne (take l.to-index l.sites) (λ (r : Bor SiteEvents). IsUnseenBetween l.from r.now))
