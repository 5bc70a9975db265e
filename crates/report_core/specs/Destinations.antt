-- The order of shipments out of the traced sites.
use Rattle.std.specs.Ordering.{nat_cmp, ordering_then}
use Rattle.std.specs.Cmp.Lexicographic.{slice_cmp}
use Rattle.std.specs.declared.cmp.Ordering.{Ordering}
use Rattle.report_core.specs.declared.outside.OutsideShipment.{OutsideShipment}

-- by site, then by item, then by destination
abbrev pub outside_cmp : OutsideShipment → OutsideShipment → Ordering
outside_cmp a b = ordering_then (nat_cmp a.site b.site) (ordering_then (slice_cmp nat_cmp a.item b.item) (slice_cmp nat_cmp a.destination b.destination))
