-- The shipments of items from a site to other sites.
use Rattle.std.specs.Prelude.{◌↔◌, ℕ, List, Contains}
use Rattle.std.specs.List.Sorted.{IsStrictlySortedBy}
use Rattle.std.specs.Ordering.{nat_cmp, ordering_then}
use Rattle.std.specs.declared.cmp.Ordering.{Ordering}
use Rattle.trace_core.specs.Pairs.{IsShipped}
use Rattle.trace_core.specs.Sites.{SiteEvents}
use Rattle.site_core.specs.Quarantines.{item_cmp}

-- a destination and an item: by item, then destination
abbrev pub shipment_cmp : ℕ × List ℕ → ℕ × List ℕ → Ordering
shipment_cmp a b = ordering_then (item_cmp a.1 b.1) (nat_cmp a.0 b.0)

-- each other site that one of the items was shipped to, with that item: by item, then site, and each once
pub record AreShipments (s : SiteEvents) (items : List (List ℕ)) (out : List (ℕ × List ℕ)) : Type 0 where
  pub ascending : IsStrictlySortedBy shipment_cmp out
  pub exact : (t : ℕ) (i : List ℕ) → Contains out (t, i) ↔ (Contains items i × IsShipped s i (record { site = t; item = i }))
