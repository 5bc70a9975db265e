use Rattle.trace_core.specs.Groups.{SeesOnly, StaysSeen, LooksAtUnseen}
use Rattle.trace_core.specs.Looks.{one_look}
use Rattle.trace_core.proofs.GainSteps.{GainsSoFar}
use Rattle.trace_core.proofs.GroupSteps.{NewSoFar, SeenSoFar}
use Rattle.trace_core.proofs.visits.visit_item.Given as goal

-- the sites that the item was shipped to, and what the transformations at the places so far make of it
abbrev pub invariant-loop-place : goal.invariant-loop-place
invariant-loop-place l = record {
  gains : GainsSoFar l.ships l.site l.number l.item l.place-items l.place-index l.fn.seen l.seen l.fn.nodes l.nodes;
  only : SeesOnly l.number l.fn.seen l.seen;
  stays : StaysSeen l.fn.seen l.seen;
  seen : SeenSoFar l.number l.site.events l.place-items l.seen l.place-index;
  new : NewSoFar l.number l.site.events l.place-items l.fn.seen l.seen l.place-index;
  looks : LooksAtUnseen l.number l.site.events l.fn.seen l.seen (one_look l.fn.looks) l.looks;
}
