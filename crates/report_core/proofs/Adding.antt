-- Shipments that are added to a set, one after another.
use Rattle.std.proofs.Common.{◌≡◌, ◌↔◌, ℕ, ◌+◌, ◌<◌, ◌≤◌, true, List, length, take, get_or, ap}
use Rattle.std.specs.BTreeSet.{Updates}
use Rattle.std.specs.Cmp.{IsTotalOrder}
use Rattle.std.specs.Cmp.Lexicographic.{slice_cmp}
use Rattle.std.specs.Ordering.{nat_cmp, ordering_then}
use Rattle.std.proofs.lemmas.Cmp.{then_total, on_total, nat_cmp_total, nat_list_cmp_total}
use Rattle.std.proofs.lemmas.Map.Lookups.{CmpEqualImpliesEq, exact_pairs, exact_unsigned, exact_bytes}
use Rattle.trace_core.proofs.SetMembers.{found-insert}
use Rattle.report_core.specs.Destinations.{outside_cmp}
use Rattle.report_core.specs.Gathering.{Found, IsIn, Adds, OneTells}
use Rattle.report_core.specs.declared.outside.OutsideShipment.{OutsideShipment}
use Rattle.report_core.proofs.Additions.{adds_nothing, adds_alike, none_by_one, one_more as one_of_more, all_added as all_of_them}

-- The order of shipments is total, and tells all of them apart.

pub outside_total : IsTotalOrder outside_cmp
outside_total = then_total (on_total (λ (x : OutsideShipment). x.site) nat_cmp_total) (then_total (on_total (λ (x : OutsideShipment). x.item) nat_list_cmp_total) (on_total (λ (x : OutsideShipment). x.destination) nat_list_cmp_total))

texts_exact : CmpEqualImpliesEq (λ (x y : List ℕ × List ℕ). ordering_then (slice_cmp nat_cmp x.0 y.0) (slice_cmp nat_cmp x.1 y.1))
texts_exact = exact_pairs (slice_cmp nat_cmp) (slice_cmp nat_cmp) exact_bytes exact_bytes

pub outside_exact : CmpEqualImpliesEq outside_cmp
outside_exact a b h =
    ap (λ (p : ℕ × (List ℕ × List ℕ)). let x : OutsideShipment = record { site = p.0; item = p.1.0; destination = p.1.1 } in x)
    (exact_pairs nat_cmp (λ (x y : List ℕ × List ℕ). ordering_then (slice_cmp nat_cmp x.0 y.0) (slice_cmp nat_cmp x.1 y.1)) exact_unsigned texts_exact
    (a.site, (a.item, a.destination)) (b.site, (b.item, b.destination)) h)

-- What is added.

pub one_added : (old new : Found) (x : OutsideShipment) → Updates outside_cmp old new x true → Adds old new (λ y. x ≡ y)
one_added old new x updates = found-insert outside_cmp outside_total outside_exact old new x updates

pub none_added : (found : Found) (P : OutsideShipment → Type 0) → ((x : OutsideShipment) → P x → ⊥) → Adds found found P
none_added found = adds_nothing (IsIn found)

pub added_alike : (old new : Found) (P Q : OutsideShipment → Type 0) → ((x : OutsideShipment) → P x ↔ Q x) → Adds old new P → Adds old new Q
added_alike old new = adds_alike (IsIn old) (IsIn new)

pub none_tells : {Y : Type 0} (ys : List Y) (Q : Y → OutsideShipment → Type 0) → length ys ≤ 0 → (x : OutsideShipment) → OneTells ys Q x → ⊥
none_tells ys Q = none_by_one Q ys

pub one_more : {Y : Type 0} (Q : Y → OutsideShipment → Type 0) (ys : List Y) (i : ℕ) (y : Y) (start old new : Found) → i < length ys → y ≡ get_or ys i y
    → Adds start old (OneTells (take i ys) Q) → Adds old new (Q y) → Adds start new (OneTells (take (i + 1) ys) Q)
one_more Q ys i y start old new = one_of_more Q ys i (IsIn start) (IsIn old) (IsIn new) y

pub all_added : {Y : Type 0} (Q : Y → OutsideShipment → Type 0) (ys : List Y) (i : ℕ) (start found : Found) → length ys ≤ i → Adds start found (OneTells (take i ys) Q) → Adds start found (OneTells ys Q)
all_added Q ys i start found = all_of_them Q ys i (IsIn start) (IsIn found)
