use Rattle.std.proofs.Common.{◌≤◌}
use Rattle.trace_core.specs.declared.pairs.Pair.{Pair}
use Rattle.trace_core.specs.Chains.{sites_at}
use Rattle.trace_core.specs.Groups.{IsGivenBy}
use Rattle.trace_core.specs.Nodes.{Stands, Gains}
use Rattle.trace_core.proofs.Visiting.{BySites}
use Rattle.trace_core.proofs.chains.RelatedPairsRelation.visit.Given as goal

-- what the sites so far relate the pair to
abbrev pub invariant-loop-number : goal.invariant-loop-number
invariant-loop-number l = record {
  gains : (p : Pair) → Stands (sites_at l.self.sites.now) l.node p → Gains (Stands (sites_at l.self.sites.now)) (IsGivenBy (sites_at l.self.sites.now)) (BySites (sites_at l.self.sites.now) p l.number) l.initial.seen l.seen l.initial.nodes l.nodes;
  least : l.initial.looks ≤ l.looks;
}
