use Rattle.std.proofs.Common.{◌≡◌, Some, refl, rules, sym}
use Rattle.std.proofs.lemmas.Result.{on_ok_weaker}
use Rattle.gap_core.proofs.Additions.{adds_one}
use Rattle.gap_core.proofs.PlaceLists.{first_place, list_changed}
use Rattle.gap_core.proofs.outside.note.Goals as goal

pub returns-in-Some : goal.returns-in-Some
returns-in-Some c = on_ok_weaker c.push.result
    (λ pushed. list_changed c.args.outside.now (c.get_mut.follows.lender c.push.new.self) c.args.destination c.push.new.self ((c.get_mut.follows.holds c.push.new.self).3 (search rules)) (Some c.in-Some.places.now)
    (sym c.in-Some.ensures.value) (λ x. c.args.place ≡ x) (adds_one c.in-Some.places.now c.push.new.self c.args.place pushed))
    c.push.ensures

-- the place is new
pub returns : goal.returns
returns c =
    first_place c.args.outside.now c.get_mut.follows.lender-at-none c.insert.new.self c.args.destination c.args.destination c.in_ok-places.places c.args.place c.get_mut.follows.holds-at-none refl
    (sym c.in_default.ensures.value) c.in_ok-insert.ensures.updates c.in_ok-places.ensures
