-- Shipments as they are gathered.
use Rattle.std.specs.Prelude.{ℕ, Bool, List}
use Rattle.std.specs.BTreeSet.{BTreeSet, contains}
use Rattle.std.specs.Ordering.{nat_cmp, ordering_then}
use Rattle.std.specs.declared.cmp.Ordering.{Ordering}
use Rattle.site_core.specs.declared.shipping.Shipment.{Shipment}
use Rattle.site_core.specs.Quarantines.{item_cmp}

-- by item, then by site
abbrev pub kept_cmp : Shipment → Shipment → Ordering
kept_cmp a b = ordering_then (item_cmp a.item b.item) (nat_cmp a.site b.site)

abbrev pub is_in : BTreeSet Shipment → ℕ → List ℕ → Bool
is_in found t i = contains kept_cmp found (record { site = t; item = i })
