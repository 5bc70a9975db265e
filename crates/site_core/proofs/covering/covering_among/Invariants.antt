use Rattle.site_core.specs.Blocks.{CoverOutputs}
use Rattle.site_core.proofs.covering.covering_among.Given as goal

-- what is found so far covers
abbrev pub invariant-loop-recall : goal.invariant-loop-recall
invariant-loop-recall l = CoverOutputs l.quarantine l.body l.found
