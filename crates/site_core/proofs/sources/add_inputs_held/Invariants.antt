use Rattle.site_core.proofs.SourcesFound.{FindsButLeft}
use Rattle.site_core.proofs.sources.add_inputs_held.Given as goal

-- the inputs among the items so far are found
abbrev pub invariant-loop-item : goal.invariant-loop-item
invariant-loop-item l = FindsButLeft l.captured.events l.quarantine l.id l.initial.found l.item-iterator l.found
