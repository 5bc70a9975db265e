-- What the records of all sites say of a recall.
use Rattle.std.specs.Prelude.{List, map, flat_map}
use Rattle.frame_core.specs.Numbers.{Recall}
use Rattle.site_core.specs.ItemSets as set
use Rattle.site_core.specs.Quarantines.{items_under}
use Rattle.site_core.specs.Records.{Record}
use Rattle.trace_core.specs.declared.pairs.Pair.{Pair}

-- what a site holds under the recall, by item
abbrev pub held_at : Recall → Record → List Pair
held_at recall r = map (λ i. record { site = r.engagement.me; item = i }) (set.items (items_under r.quarantine recall))

-- all that is quarantined under the recall, by site and item
abbrev pub quarantined : Recall → List Record → List Pair
quarantined recall records = flat_map (held_at recall) records
