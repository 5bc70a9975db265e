use Rattle.std.proofs.Common.{◌↔◌, ◌∷◌, []}
use Rattle.std.specs.List.{Contains}
use Rattle.std.proofs.lemmas.Result.{IfOk-weaker}
use Rattle.trace_core.specs.declared.pairs.Pair.{Pair}
use Rattle.trace_core.specs.Chains.{Related}
use Rattle.trace_core.specs.Groups.{IsGivenBy}
use Rattle.trace_core.specs.Pairs.{IsRelated}
use Rattle.trace_core.specs.Searches.{AreUnseen}
use Rattle.trace_core.proofs.ReachSteps.{related_alone}
use Rattle.trace_core.proofs.captured.Captured.related.Goals as goal

-- what a search that has seen nothing notes from the item
pub returns-clause-exact : goal.returns-clause-exact
returns-clause-exact c = IfOk-weaker c.unseen_targets.result
    (λ targets. AreUnseen (Related (c.args.self.now ∷ []) (record { site = c.me.result; item = c.in_ok-copy.field-0 })) (IsGivenBy (c.args.self.now ∷ [])) c.new.result c.unseen_targets.new.seen targets.items)
    (λ pairs. (p : Pair) → Contains pairs.items p ↔ IsRelated c.args.self.now c.args.item.now p)
    (λ targets unseen. related_alone c.args.self.now c.me.result c.args.item.now c.in_ok-copy.field-0 c.new.result c.unseen_targets.new.seen targets.items c.me.ensures c.in_ok-copy.ensures c.new.ensures unseen)
    c.unseen_targets.ensures.unseen
