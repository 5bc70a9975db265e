use Rattle.std.proofs.Common.{◌≡◌, ◌↔◌, sym}
use Rattle.std.specs.List.{Contains}
use Rattle.std.proofs.lemmas.Result.{IfOk-weaker}
use Rattle.trace_core.specs.declared.pairs.Pair.{Pair}
use Rattle.trace_core.specs.Spreads.{IsNewlyMade}
use Rattle.trace_core.proofs.NewTargets.{made_listed}
use Rattle.trace_core.proofs.captured.Captured.new_made.Goals as goal

pub returns-clause-exact : goal.returns-clause-exact
returns-clause-exact c = IfOk-weaker c.keys_in_order.result
    (λ pairs. pairs.items ≡ c.in_ok-pairs.pairs.keys)
    (λ pairs. (q : Pair) → Contains pairs.items q ↔ IsNewlyMade c.args.self.now c.args.event.now c.args.item.now q)
    (λ pairs keys. made_listed c.args.self.now c.args.event.now c.args.item.now c.in_ok-pairs.pairs pairs.items keys
    (c.in_ok-pairs.ensures c.args.event.now (sym c.body.ensures.value)))
    c.keys_in_order.ensures.keys
