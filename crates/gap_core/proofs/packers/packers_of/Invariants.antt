use Rattle.std.proofs.Common.{take}
use Rattle.trace_core.specs.Chains.{sites_at}
use Rattle.gap_core.specs.Adding.{AddsTo, ByOne}
use Rattle.gap_core.specs.Packers.{IsFrom, IsFromSource}
use Rattle.gap_core.proofs.packers.packers_of.Given as goal

-- those of the sources so far
abbrev pub invariant-loop-source : goal.invariant-loop-source
invariant-loop-source l = AddsTo (λ m. ⊥) (IsFrom l.packers) (ByOne (take l.source-index l.source-items) (IsFromSource (sites_at l.sites) l.at l.container))
