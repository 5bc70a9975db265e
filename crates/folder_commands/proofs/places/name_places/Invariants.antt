use Rattle.std.proofs.Common.{◌≡◌, take}
use Rattle.gap_core.specs.Adding.{ByOne}
use Rattle.folder_commands.specs.Untraced.{NamesPlaces}
use Rattle.folder_commands.proofs.places.name_places.Given as goal

-- those so far
abbrev pub invariant-loop-place : goal.invariant-loop-place
invariant-loop-place l = NamesPlaces (ByOne (take l.place-index l.places) (λ y x. y ≡ x)) l.fn.named.items l.named.items
