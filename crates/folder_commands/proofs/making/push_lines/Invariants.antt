use Rattle.std.proofs.Common.{◌≡◌, ◌++◌, map, take}
use Rattle.recall_outcomes.specs.declared.outcomes.CommandRefusal.TheVariants.{Line}
use Rattle.folder_commands.proofs.making.push_lines.Given as goal

-- the lines so far are refused
abbrev pub invariant-loop-line : goal.invariant-loop-line
invariant-loop-line l = l.refusals.items ≡ l.fn.refusals.items ++ map Line (take l.line-index l.lines)
