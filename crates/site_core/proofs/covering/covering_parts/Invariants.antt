use Rattle.site_core.specs.Blocks.{CoverParts}
use Rattle.site_core.proofs.covering.covering_parts.Given as goal

-- what is found so far covers
abbrev pub invariant-loop-recall : goal.invariant-loop-recall
invariant-loop-recall l = CoverParts l.captured.events l.quarantine l.body l.found
