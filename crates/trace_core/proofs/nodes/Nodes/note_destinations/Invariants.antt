use Rattle.trace_core.specs.Nodes.{NotesNodes, destinations}
use Rattle.trace_core.specs.SiteSets.{sites_below}
use Rattle.trace_core.proofs.nodes.Nodes.note_destinations.Given as goal

-- the sites so far
abbrev pub invariant-loop-number : goal.invariant-loop-number
invariant-loop-number l = NotesNodes l.initial.self l.self (destinations l.me l.site l.item (sites_below l.number l.sites))
