use Rattle.std.proofs.Common.{◌≡◌, ◌++◌}
use Rattle.std.specs.Vec.Iter.{into_iter_items}
use Rattle.trace_core.specs.Trails.{NotesSteps}
use Rattle.trace_core.proofs.steps.Steps.note_all.Given as goal

-- the targets so far are noted
abbrev pub invariant-loop-target : goal.invariant-loop-target
invariant-loop-target l = record {
  noted : NotesSteps l.initial.self l.self l.from l.yielded;
  parts : l.fn.targets.items ≡ l.yielded ++ into_iter_items l.target-iterator;
}
