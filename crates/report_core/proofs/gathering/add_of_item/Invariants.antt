use Rattle.std.proofs.Common.{take}
use Rattle.report_core.specs.Gathering.{Adds, CarrierTells, OneTells}
use Rattle.report_core.proofs.gathering.add_of_item.Given as goal

-- those of what carried the item so far
abbrev pub invariant-loop-carrier : goal.invariant-loop-carrier
invariant-loop-carrier l = Adds l.fn.found l.found (OneTells (take l.carrier-index l.carrier-items) (CarrierTells l.containers.site.now.events l.shipments l.site l.item))
