use Rattle.std.proofs.Common.{subst, sym}
use Rattle.std.specs.Prelude.{⊤, Option, IfSome}
use Rattle.std.specs.BTreeMap.{BTreeMap}
use Rattle.std.specs.FinMap.{remove}
use Rattle.frame_core.specs.Places.{AreListed, place_cmp}
use Rattle.frame_core.specs.declared.places.Place.{Place}
use Rattle.frame_core.specs.Tables.{as_map}
use Rattle.frame_core.proofs.Placing.{listed_without}
use Rattle.frame_core.proofs.places.Places.unlist.Goals as goal

pub returns-in-Some : goal.returns-in-Some
returns-in-Some c rows row h stood to =
    subst (AreListed (remove rows c.args.place.number)) (sym c.take.ensures.left) (listed_without rows (as_map place_cmp c.in-Some.listed) c.args.place row (subst (λ (z : Option (BTreeMap Place ⊤)). IfSome z (λ l. AreListed rows (as_map place_cmp l))) c.in-Some.is h) stood to)
