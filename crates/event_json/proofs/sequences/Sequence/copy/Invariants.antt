use Rattle.std.proofs.Common.{◌≡◌, take}
use Rattle.event_json.proofs.sequences.Sequence.copy.Given as goal

abbrev pub invariant-loop-value : goal.invariant-loop-value
invariant-loop-value g l = l.copies.items ≡ take l.value-index l.value-items
