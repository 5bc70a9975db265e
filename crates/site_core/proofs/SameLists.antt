-- What a step's lists are is fixed: the spread, what is new in it, and its shipments.
use Rattle.std.proofs.Common.{◌≡◌, ◌↔◌, ℕ, List, ap, sym, subst}
use Rattle.std.specs.Cmp.{IsTotalOrder}
use Rattle.std.specs.Cmp.Lexicographic.{slice_cmp}
use Rattle.std.specs.Ordering.{nat_cmp}
use Rattle.std.proofs.lemmas.Cmp.{then_total, on_total, nat_cmp_total, nat_list_cmp_total}
use Rattle.std.proofs.lemmas.Map.Lookups.{CmpEqualImpliesEq, exact_pairs, exact_unsigned, exact_bytes}
use Rattle.frame_core.specs.Numbers.{Recall}
use Rattle.trace_core.specs.Sites.{SiteEvents}
use Rattle.site_core.specs.Quarantines.{Quarantine, item_cmp}
use Rattle.site_core.specs.Records.{Record}
use Rattle.site_core.specs.Shipments.{AreShipments, shipment_cmp}
use Rattle.site_core.specs.Spreading.{AreNewlyHeld}
use Rattle.site_core.specs.Steps.{MayStart}
use Rattle.site_core.proofs.Ascending.{same_ascending}

pub shipment_exact : CmpEqualImpliesEq shipment_cmp
shipment_exact a b h = ap (λ (p : List ℕ × ℕ). (p.1, p.0)) (exact_pairs (slice_cmp nat_cmp) nat_cmp exact_bytes exact_unsigned (a.1, a.0) (b.1, b.0) h)

pub shipment_total : IsTotalOrder shipment_cmp
shipment_total = then_total (on_total (λ (p : ℕ × List ℕ). p.1) nat_list_cmp_total) (on_total (λ (p : ℕ × List ℕ). p.0) nat_cmp_total)

-- two tests of one property
pub both : {P Q R : Type 0} → P ↔ R → Q ↔ R → P ↔ Q
both p q = (λ x. q.1 (p.0 x), λ y. p.1 (q.0 y))

pub same_newly : (s : SiteEvents) (q : Quarantine) (r : Recall) (i : List ℕ) (xs ys : List (List ℕ)) → AreNewlyHeld s q r i xs → AreNewlyHeld s q r i ys → xs ≡ ys
same_newly s q r i xs ys a b = same_ascending item_cmp nat_list_cmp_total exact_bytes xs ys a.ascending b.ascending (λ j. both (a.exact j) (b.exact j))

pub same_shipments : (s : SiteEvents) (items also : List (List ℕ)) (xs ys : List (ℕ × List ℕ)) → items ≡ also → AreShipments s items xs → AreShipments s also ys → xs ≡ ys
same_shipments s items also xs ys same a c =
    let b = subst (λ is. AreShipments s is ys) (sym same) c in
    same_ascending shipment_cmp shipment_total shipment_exact xs ys a.ascending b.ascending (λ x. both (a.exact x.0 x.1) (b.exact x.0 x.1))

module _ (s : Record) (root : List ℕ) (spread also new more : List (List ℕ)) (out others : List (ℕ × List ℕ))
    (a : MayStart s root spread new out) (b : MayStart s root also more others) where
  same_spread : spread ≡ also
  same_spread = same_ascending item_cmp nat_list_cmp_total exact_bytes spread also a.ascending b.ascending (λ j. both (a.exact j) (b.exact j))

  pub same_new : new ≡ more
  same_new = same_newly s.captured s.quarantine _ root new more a.newly b.newly

  pub same_out : out ≡ others
  same_out = same_shipments s.captured spread also out others same_spread a.shipped b.shipped
