use Rattle.std.proofs.Common.{take}
use Rattle.site_core.proofs.SourcesFound.{FindsAtPlaces}
use Rattle.site_core.proofs.sources.add_parts.Given as goal

-- what the events at the places so far move
abbrev pub invariant-loop-place : goal.invariant-loop-place
invariant-loop-place l = FindsAtPlaces l.captured.events (take l.place-index l.place-items) l.initial.found l.found
