use Rattle.std.proofs.Common.{rules, sym}
use Rattle.trace_core.specs.Places.{text_places}
use Rattle.trace_core.proofs.PlaceSteps.{text_found, taken_in}
use Rattle.trace_core.proofs.ids.forget_in.Goals as goal

pub returns-in-Some-clause-left : goal.returns-in-Some-clause-left
returns-in-Some-clause-left c = taken_in (text_places c.args.index.now) (text_places (c.get_mut.follows.lender c.forget.new.self)) c.args.text.now c.in-Some.places.now c.forget.new.self
    (text_found c.args.index.now (c.get_mut.follows.lender c.forget.new.self) c.args.text.now _ ((c.get_mut.follows.holds c.forget.new.self).3 (search rules))) (sym c.in-Some.ensures.value) c.args.place c.forget.ensures
