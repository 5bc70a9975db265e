use Rattle.std.proofs.Common.{◌≡◌, List, ℕ}
use Rattle.std.specs.Prelude.{Contains}
use Rattle.gap_core.specs.Adding.{ByOne}
use Rattle.gap_core.proofs.Notings.{each_itself}
use Rattle.folder_commands.proofs.PlaceLemmas.{all_named, names_alike, none_named, one_more_named}
use Rattle.folder_commands.proofs.places.name_places.Goals as goal

abbrev Is : List ℕ → List ℕ → Type 0
Is y x = y ≡ x

pub loop-place-init : goal.loop-place-init
loop-place-init c = none_named Is c.args.places.now c.args.named.now.items

pub loop-place-preserved : goal.loop-place-preserved
loop-place-preserved c =
    one_more_named Is c.args.places.now c.loop-place.place-index c.place-item.result c.loop-place-test.true
    c.place-item.is c.args.named.now.items c.loop-place.named.items c.name_place.new.named.items c.loop-place.invariant c.in_ok-name_place.ensures

pub returns : goal.returns
returns c =
    names_alike (ByOne c.args.places.now Is) (Contains c.args.places.now) c.args.named.now.items c.loop-place.named.items (each_itself c.args.places.now)
    (all_named Is c.args.places.now c.loop-place.place-index c.loop-place-test.false c.args.named.now.items c.loop-place.named.items c.loop-place.invariant)
