-- The order of transformations tells them apart.
use Rattle.std.proofs.Common.{ℕ, ap}
use Rattle.std.specs.Cmp.{IsTotalOrder}
use Rattle.std.specs.Ordering.{nat_cmp}
use Rattle.std.proofs.lemmas.Cmp.{then_total, on_total, nat_cmp_total}
use Rattle.std.proofs.lemmas.Map.Lookups.{CmpEqualImpliesEq, exact_pairs, exact_unsigned}
use Rattle.trace_core.specs.Groups.{group_cmp}

pub groups_exact : CmpEqualImpliesEq group_cmp
groups_exact a b h = ap (λ (p : ℕ × ℕ). record { site = p.0; first = p.1 }) (exact_pairs nat_cmp nat_cmp exact_unsigned exact_unsigned (a.site, a.first) (b.site, b.first) h)

pub groups_total : IsTotalOrder group_cmp
groups_total = then_total (on_total (λ g. g.site) nat_cmp_total) (on_total (λ g. g.first) nat_cmp_total)
