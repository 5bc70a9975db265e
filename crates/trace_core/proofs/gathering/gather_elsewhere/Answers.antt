use Rattle.std.proofs.Common.{sym, ◌∙◌}
use Rattle.std.proofs.lemmas.Bool.{both_ways, not-true, eq-eqb}
use Rattle.trace_core.proofs.GatheringSteps.{added_elsewhere}
use Rattle.trace_core.proofs.gathering.gather_elsewhere.Goals as goal

pub returns-in_ok-insert : goal.returns-in_ok-insert
returns-in_ok-insert c = added_elsewhere c.args.pairs.now c.insert.new.self c.args.me c.args.site c.args.item.now _ c.in_ok-copy.ensures
    (λ e. both_ways _ (not-true _ (sym c.ne.ensures ∙ c.if-ne.true)) (eq-eqb _ _ e)) c.in_ok-insert.ensures.updates
