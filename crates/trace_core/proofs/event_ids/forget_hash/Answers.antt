use Rattle.std.proofs.Common.{sym, ◌∙◌}
use Rattle.trace_core.specs.EventIds.{hash_key, hash_places}
use Rattle.trace_core.proofs.EventIdSteps.{hash_found}
use Rattle.trace_core.proofs.PlaceSteps.{forgotten_whole, forgotten_part}
use Rattle.trace_core.proofs.event_ids.forget_hash.Goals as goal

pub returns-then-forget_in : goal.returns-then-forget_in
returns-then-forget_in c = forgotten_whole (hash_places c.args.index.now) (hash_places c.forget_in.new.index) c.args.place (hash_key c.args.hash) c.forget_in.ensures.left (hash_places c.swap_remove.new.self)
    (sym c.forget_in.ensures.emptied ∙ c.if-forget_in.true) (hash_found c.forget_in.new.index c.swap_remove.new.self c.args.hash _ c.swap_remove.ensures.updates)

pub returns-else-forget_in : goal.returns-else-forget_in
returns-else-forget_in c = forgotten_part (hash_places c.args.index.now) (hash_places c.forget_in.new.index) c.args.place (hash_key c.args.hash) c.forget_in.ensures.left (sym c.forget_in.ensures.emptied ∙ c.if-forget_in.false)
