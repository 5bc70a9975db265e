use Rattle.trace_core.specs.Searches.{IsFound}
use Rattle.site_core.specs.ItemSets.{item_cmp}
use Rattle.report_core.specs.Sources.{AddsTo}
use Rattle.report_core.proofs.StepsWanted.{ContainsBefore}
use Rattle.report_core.proofs.wanted_steps.add_containers_of.Given as goal

-- those of the events so far
abbrev pub invariant-loop-place : goal.invariant-loop-place
invariant-loop-place l = AddsTo (IsFound item_cmp l.fn.items) (IsFound item_cmp l.items) (ContainsBefore l.site l.place)
