use Rattle.std.proofs.Common.{◌≡◌, ◌++◌, length, map}
use Rattle.std.specs.Vec.Iter.{into_iter_items}
use Rattle.folder_commands.specs.Inputs.{input_of}
use Rattle.folder_commands.specs.Words.{of_events}
use Rattle.folder_commands.proofs.words.event_inputs.Given as goal

-- the documents so far are inputs
abbrev pub invariant-loop-bytes : goal.invariant-loop-bytes
invariant-loop-bytes l =
    (l.fn.documents.items ≡ l.yielded ++ into_iter_items l.bytes-iterator)
    × (l.number ≡ length l.yielded)
    × (map input_of l.all.items ≡ of_events l.path 1 (map (λ d. d.items) l.yielded))
