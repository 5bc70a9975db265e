use Rattle.std.proofs.Common.{subst}
use Rattle.std.specs.Prelude.{⊤, Option, IfSome}
use Rattle.std.specs.BTreeMap.{BTreeMap}
use Rattle.std.specs.Ordering.{nat_cmp}
use Rattle.frame_core.specs.Places.{AreListed, place_cmp}
use Rattle.frame_core.specs.Tables.{as_map}
use Rattle.frame_core.specs.declared.places.Place.{Place}
use Rattle.frame_core.proofs.places.Places.first.Goals as goal

pub returns-in-Some : goal.returns-in-Some
returns-in-Some c =
    c.first_listed.ensures (as_map nat_cmp c.args.rows.now)
    (subst (λ (z : Option (BTreeMap Place ⊤)). IfSome z (λ l. AreListed (as_map nat_cmp c.args.rows.now) (as_map place_cmp l))) c.in-Some.is c.requires)
