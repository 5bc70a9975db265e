use Rattle.std.proofs.Common.{Bor, take}
use Rattle.std.specs.List.{Contains}
use Rattle.event_json.specs.Events.{Content}
use Rattle.trace_core.specs.Sites.{SiteEvents}
use Rattle.folder_questions.specs.Packs.{IsEventAt}
use Rattle.folder_questions.proofs.packs.event_of.Given as goal

-- it is none of the sites so far
abbrev pub invariant-loop-site : goal.invariant-loop-site
invariant-loop-site l = (r : Bor SiteEvents) → Contains (take l.site-index l.sites) r → (e : Content) → IsEventAt r.now l.pack e → ⊥
