use Rattle.std.proofs.Common.{◌≡◌, replicate}
use Rattle.site_core.specs.ItemSets as set
use Rattle.report_core.proofs.item_places.no_items.Given as goal

-- as many as counted
abbrev pub invariant-loop : goal.invariant-loop
invariant-loop l = l.sets.items ≡ replicate l.counter set.empty
