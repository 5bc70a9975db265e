use Rattle.std.proofs.Common.{take}
use Rattle.std.specs.List.{AllZip}
use Rattle.folder_commands.specs.Notes.{NotesStop}
use Rattle.folder_commands.proofs.notes.known_stops.Given as goal

-- the sites so far are noted
abbrev pub invariant-loop-stop : goal.invariant-loop-stop
invariant-loop-stop g l = AllZip (NotesStop (g.F.Files.knows l.files) l.folder l.sites) (take l.stop-index l.stops) l.all.items
