use Rattle.std.proofs.Common.{rules, sym}
use Rattle.trace_core.specs.EventIds.{hash_key, hash_places}
use Rattle.trace_core.proofs.EventIdSteps.{hash_found}
use Rattle.trace_core.proofs.PlaceSteps.{taken_in}
use Rattle.trace_core.proofs.event_ids.forget_in.Goals as goal

pub returns-in-Some-clause-left : goal.returns-in-Some-clause-left
returns-in-Some-clause-left c = taken_in (hash_places c.args.index.now) (hash_places (c.get_mut.follows.lender c.forget.new.self)) (hash_key c.args.hash) c.in-Some.places.now c.forget.new.self
    (hash_found c.args.index.now (c.get_mut.follows.lender c.forget.new.self) c.args.hash _ ((c.get_mut.follows.holds c.forget.new.self).3 (search rules))) (sym c.in-Some.ensures.value) c.args.place c.forget.ensures
