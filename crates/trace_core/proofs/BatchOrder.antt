-- The order of batches tells them apart.
use Rattle.std.proofs.Common.{ℕ, ap}
use Rattle.std.specs.Cmp.{IsTotalOrder}
use Rattle.std.specs.Ordering.{nat_cmp}
use Rattle.std.proofs.lemmas.Cmp.{then_total, on_total, nat_cmp_total}
use Rattle.std.proofs.lemmas.Map.Lookups.{CmpEqualImpliesEq, exact_pairs, exact_unsigned}
use Rattle.trace_core.specs.Found.{batch_cmp}

pub batches_exact : CmpEqualImpliesEq batch_cmp
batches_exact a b h = ap (λ (p : ℕ × ℕ). record { at = p.0; site = p.1 }) (exact_pairs nat_cmp nat_cmp exact_unsigned exact_unsigned (a.at, a.site) (b.at, b.site) h)

pub batches_total : IsTotalOrder batch_cmp
batches_total = then_total (on_total (λ b. b.at) nat_cmp_total) (on_total (λ b. b.site) nat_cmp_total)
