use Rattle.std.proofs.Common.{refl, sym}
use Rattle.trace_core.proofs.NodeSteps.{nowhere, no_destinations, one_destination, no_destination}
use Rattle.trace_core.proofs.nodes.Nodes.note_destinations.Goals as goal
use Rattle.trace_core.proofs.nodes.Nodes.note_destinations.Goals.{in-Some+in_ok-note_elsewhere, in_default}

pub loop-number-init : goal.loop-number-init
loop-number-init c = no_destinations c.args.self.now c.args.me c.args.site c.args.item c.args.sites

pub loop-number-preserved : goal.loop-number-preserved
loop-number-preserved c =
    elim c.match-at.branch [
      | in-Some+in_ok-note_elsewhere w ↦ rw w.self-is (one_destination c.args.self.now c.loop-number.self c.args.me c.args.site c.args.item c.args.sites c.loop-number.number w.note_elsewhere.new.self w.in-Some.at (sym w.in-Some.ensures.some) w.in-Some.ensures.value c.loop-number.invariant w.in_ok-note_elsewhere.ensures)
      | in_default w ↦ rw w.self-is (no_destination c.args.self.now c.loop-number.self c.args.me c.args.site c.args.item c.args.sites c.loop-number.number (sym w.in_default.ensures.some) c.loop-number.invariant)
    ]

pub returns-then-is_empty : goal.returns-then-is_empty
returns-then-is_empty c = nowhere c.args.self.now c.args.me c.args.site c.args.item c.args.sites (c.if-is_empty.ensures refl)
