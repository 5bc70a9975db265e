use Rattle.std.proofs.Common.{◌≡◌, take}
use Rattle.command_line.proofs.command_lines.copied.Given as goal

-- those so far
abbrev pub invariant-loop-text : goal.invariant-loop-text
invariant-loop-text l = l.copy.items ≡ take l.text-index l.texts
