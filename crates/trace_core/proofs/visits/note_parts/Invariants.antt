use Rattle.std.proofs.Common.{take, slice_get, sum_by}
use Rattle.std.specs.List.{flat_map}
use Rattle.trace_core.specs.Groups.{outputs_at}
use Rattle.trace_core.specs.Looks.{LooksAtEach}
use Rattle.trace_core.specs.Nodes.{NotesNodes, part_nodes}
use Rattle.trace_core.proofs.visits.note_parts.Given as goal

-- the outputs of the transformations so far, each looked at once
abbrev pub invariant-loop-place : goal.invariant-loop-place
invariant-loop-place l = record {
  noted : NotesNodes l.initial.nodes l.nodes (flat_map (λ k. part_nodes l.me l.book l.number k) (take l.place-index l.places));
  looks : LooksAtEach (sum_by (λ k. outputs_at (slice_get l.book k)) (take l.place-index l.places)) l.initial.looks l.looks;
}
