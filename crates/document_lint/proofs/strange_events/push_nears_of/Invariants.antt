use Rattle.std.proofs.Common.{◌≡◌, ◌++◌, drop}
use Rattle.std.specs.List.{flat_map}
use Rattle.document_lint.specs.Findings.{near, nears_of}
use Rattle.document_lint.proofs.strange_events.push_nears_of.Given as goal

-- those of the items so far and of the rest are all of them
abbrev pub invariant-loop-item : goal.invariant-loop-item
invariant-loop-item l =
    l.found.items ++ flat_map (near l.field) (drop l.item-index l.items) ≡ l.fn.found.items ++ nears_of l.field l.items
