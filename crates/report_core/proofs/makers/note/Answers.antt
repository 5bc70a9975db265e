use Rattle.std.proofs.Common.{rules, Some, sym}
use Rattle.std.proofs.lemmas.Result.{on_ok_weaker}
use Rattle.report_core.proofs.PlacesKept.{place_noted, first_noted}
use Rattle.report_core.proofs.makers.note.Goals as goal

pub returns-in-Some : goal.returns-in-Some
returns-in-Some c = on_ok_weaker c.push.result
    (λ pushed. place_noted c.args.index.now (c.get_mut.follows.lender c.push.new.self) c.args.item.now c.push.new.self ((c.get_mut.follows.holds c.push.new.self).3 (search rules)) c.args.place (Some c.in-Some.places.now)
    (sym c.in-Some.ensures.value) pushed)
    c.push.ensures

-- the item is new
pub returns : goal.returns
returns c = first_noted c.args.index.now c.get_mut.follows.lender-at-none c.insert.new.self c.args.item.now c.in_ok-copy.field-0 c.in_ok-places.places c.args.place c.get_mut.follows.holds-at-none c.in_ok-copy.ensures
    (sym c.in_default.ensures.value) c.in_ok-insert.ensures.updates c.in_ok-places.ensures
