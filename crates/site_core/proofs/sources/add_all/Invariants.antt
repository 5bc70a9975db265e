use Rattle.std.proofs.Common.{take}
use Rattle.site_core.specs.Sources.{FindsAlso}
use Rattle.site_core.proofs.sources.add_all.Given as goal

-- the items so far
abbrev pub invariant-loop-item : goal.invariant-loop-item
invariant-loop-item l = FindsAlso l.initial.found l.found (take l.item-index l.items)
