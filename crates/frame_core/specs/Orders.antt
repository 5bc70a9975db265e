-- Recalls and messages are in a total order, in which only equal ones tie.
use Rattle.std.proofs.Common.{ℕ, ap}
use Rattle.std.specs.Cmp.{IsTotalOrder}
use Rattle.std.specs.Ordering.{nat_cmp}
use Rattle.std.specs.FinMap.{IsAntisymmetric}
use Rattle.std.proofs.lemmas.Cmp.{nat_cmp_total, on_total, then_total}
use Rattle.std.proofs.lemmas.Map.Lookups.{exact_pairs, exact_unsigned}
use Rattle.frame_core.specs.Numbers.{Recall}
use Rattle.frame_core.specs.Numbers.{Message}
use Rattle.frame_core.specs.Identifiers.{recall_cmp, message_cmp}

pub recall_total : IsTotalOrder recall_cmp
recall_total = then_total (on_total (λ (r : Recall). r.site) nat_cmp_total) (on_total (λ (r : Recall). r.number) nat_cmp_total)

pub recall_exact : IsAntisymmetric recall_cmp
recall_exact a b h = ap (λ (p : ℕ × ℕ). let r : Recall = record { site = p.0; number = p.1 } in r) (exact_pairs nat_cmp nat_cmp exact_unsigned exact_unsigned (a.site, a.number) (b.site, b.number) h)

pub message_total : IsTotalOrder message_cmp
message_total = then_total (on_total (λ (m : Message). m.site) nat_cmp_total) (on_total (λ (m : Message). m.number) nat_cmp_total)

pub message_exact : IsAntisymmetric message_cmp
message_exact a b h = ap (λ (p : ℕ × ℕ). let m : Message = record { site = p.0; number = p.1 } in m) (exact_pairs nat_cmp nat_cmp exact_unsigned exact_unsigned (a.site, a.number) (b.site, b.number) h)
