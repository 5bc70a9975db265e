use Rattle.std.proofs.Common.{◌≡◌, ◌++◌, drop}
use Rattle.std.specs.List.{flat_map}
use Rattle.document_lint.specs.Locations.{unlisted}
use Rattle.document_lint.proofs.unlisted.push_places.Given as goal

-- those of the places so far and of the rest are all of them
abbrev pub invariant-loop-place : goal.invariant-loop-place
invariant-loop-place l =
    l.found.items ++ flat_map (unlisted l.sites) (drop l.place-index l.places) ≡ l.fn.found.items ++ flat_map (unlisted l.sites) l.places
