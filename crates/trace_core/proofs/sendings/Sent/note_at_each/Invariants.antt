use Rattle.std.specs.List.{flat_map}
use Rattle.trace_core.specs.Sendings.{NotesSendings, at_site}
use Rattle.trace_core.specs.SiteSets.{sites_below}
use Rattle.trace_core.proofs.sendings.Sent.note_at_each.Given as goal

-- the items were sent to the sites so far
abbrev pub invariant-loop-number : goal.invariant-loop-number
invariant-loop-number l = NotesSendings l.initial.self l.self (flat_map (at_site l.items) (sites_below l.number l.sites))
