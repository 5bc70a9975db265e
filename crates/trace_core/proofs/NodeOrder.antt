-- An order of nodes, which tells them apart.
use Rattle.std.proofs.Common.{ℕ, ap}
use Rattle.std.specs.Cmp.{IsTotalOrder}
use Rattle.std.specs.declared.cmp.Ordering.{Ordering}
use Rattle.std.specs.Ordering.{nat_cmp, ordering_then}
use Rattle.std.proofs.lemmas.Cmp.{then_total, on_total, nat_cmp_total}
use Rattle.std.proofs.lemmas.Map.Lookups.{CmpEqualImpliesEq, exact_pairs, exact_unsigned}
use Rattle.trace_core.specs.declared.nodes.Node.{Node}

-- by site, then by item, then by the pair's site
abbrev pub node_cmp : Node → Node → Ordering
node_cmp a b = ordering_then (nat_cmp a.site b.site) (ordering_then (nat_cmp a.item b.item) (nat_cmp a.at b.at))

abbrev two_cmp : ℕ × ℕ → ℕ × ℕ → Ordering
two_cmp x y = ordering_then (nat_cmp x.0 y.0) (nat_cmp x.1 y.1)

two_exact : CmpEqualImpliesEq two_cmp
two_exact x y h = exact_pairs nat_cmp nat_cmp exact_unsigned exact_unsigned x y h

pub nodes_exact : CmpEqualImpliesEq node_cmp
nodes_exact a b h = ap (λ (p : ℕ × (ℕ × ℕ)). record { site = p.0; item = p.1.0; at = p.1.1 }) (exact_pairs nat_cmp two_cmp exact_unsigned two_exact (a.site, (a.item, a.at)) (b.site, (b.item, b.at)) h)

pub nodes_total : IsTotalOrder node_cmp
nodes_total = then_total (on_total (λ n. n.site) nat_cmp_total) (then_total (on_total (λ n. n.item) nat_cmp_total) (on_total (λ n. n.at) nat_cmp_total))
