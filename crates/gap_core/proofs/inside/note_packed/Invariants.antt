use Rattle.std.proofs.Common.{take, Bor}
use Rattle.trace_core.specs.Pairs.{Carries}
use Rattle.trace_core.specs.Sites.{SiteEvents}
use Rattle.gap_core.specs.Adding.{ByOne, NotesThose}
use Rattle.gap_core.proofs.inside.note_packed.Given as goal

-- what the sites so far put into it
abbrev pub invariant-loop-site : goal.invariant-loop-site
invariant-loop-site l = NotesThose (ByOne (take l.site-index l.sites) (λ (r : Bor SiteEvents). Carries r.now.events l.item)) l.fn.found l.found
