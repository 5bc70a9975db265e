use Rattle.std.proofs.Common.{take}
use Rattle.folder_commands.specs.Untraced.{IsOutside, NamesPlaces}
use Rattle.folder_commands.proofs.places.name_events.Given as goal

-- those of the events so far
abbrev pub invariant-loop-event : goal.invariant-loop-event
invariant-loop-event l = NamesPlaces (IsOutside (take l.event-index l.events)) l.fn.named.items l.named.items
