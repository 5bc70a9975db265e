use Rattle.std.proofs.Common.{◌≡◌, ◌++◌, ◌≤◌, drop, length}
use Rattle.folder_commands.specs.Notes.{stops_from}
use Rattle.folder_commands.proofs.notes.stops_of.Given as goal

-- those so far, and those of the sites to come
abbrev pub invariant-loop-place : goal.invariant-loop-place
invariant-loop-place l = record {
  stops : l.stops.items ++ stops_from l.place (drop l.place l.before) (drop l.place l.after) (drop l.place l.lists) ≡ stops_from 0 l.before l.after l.lists;
  within : l.place ≤ length l.lists;
}
