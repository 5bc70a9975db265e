use Rattle.std.proofs.Common.{take}
use Rattle.trace_core.specs.Sendings.{NotesSendings, at_site}
use Rattle.trace_core.proofs.sendings.Sent.note_at.Given as goal

-- the items so far were sent to the site
abbrev pub invariant-loop-item : goal.invariant-loop-item
invariant-loop-item l = NotesSendings l.initial.self l.self (at_site (take l.item-index l.items) l.site)
