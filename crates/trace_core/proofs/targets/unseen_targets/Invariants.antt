use Rattle.trace_core.specs.Chains.{sites_at}
use Rattle.trace_core.specs.Groups.{IsGivenBy}
use Rattle.trace_core.specs.Nodes.{Stands, Gains}
use Rattle.trace_core.proofs.Visiting.{BySites}
use Rattle.trace_core.proofs.targets.unseen_targets.Given as goal

-- what the sites so far relate the pair to
abbrev pub invariant-loop-number : goal.invariant-loop-number
invariant-loop-number l = Gains (Stands (sites_at l.sites)) (IsGivenBy (sites_at l.sites)) (BySites (sites_at l.sites) l.pair l.number) l.initial.seen l.seen l.initial.nodes l.nodes
