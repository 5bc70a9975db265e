use Rattle.std.proofs.Common.{subst, sym, ◌∙◌}
use Rattle.std.specs.Prelude.{⊤, Option, IfSome}
use Rattle.std.specs.BTreeMap.{BTreeMap}
use Rattle.std.specs.FinMap.{insert}
use Rattle.frame_core.specs.Places.{AreListed, place_cmp}
use Rattle.frame_core.specs.declared.places.Place.{Place}
use Rattle.frame_core.specs.Tables.{as_map}
use Rattle.frame_core.proofs.Placing.{listed_new, not_failed}
use Rattle.frame_core.proofs.places.Places.list.Goals as goal

pub returns-else-is_err : goal.returns-else-is_err
returns-else-is_err c rows row h none to =
    let put = not_failed c.put.result (sym c.is_err.ensures.value ∙ c.if-is_err.false) c.put.ensures.ok in
    subst (AreListed (insert rows c.args.place.number row)) (sym put) (listed_new rows (as_map place_cmp c.in-Some.listed) c.args.place row (subst (λ (z : Option (BTreeMap Place ⊤)). IfSome z (λ l. AreListed rows (as_map place_cmp l))) c.in-Some.is h) none to)
