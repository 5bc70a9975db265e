use Rattle.trace_core.proofs.event_items.forget_items_of.Goals as goal

pub returns : goal.returns
returns c = record { left = c.forget_place.new.known; forgotten = c.forget_place.ensures; taken = c.truncate.ensures }
