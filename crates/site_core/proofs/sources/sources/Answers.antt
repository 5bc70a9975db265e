use Rattle.std.proofs.Common.{ℕ, List, ◌≡◌}
use Rattle.std.specs.List.{Contains}
use Rattle.std.proofs.lemmas.Result.{IfOk-weaker}
use Rattle.frame_core.specs.Numbers.{Recall}
use Rattle.site_core.specs.Capturing.{IsBlockedBy}
use Rattle.site_core.proofs.JoinedParts.{blocked_listed}
use Rattle.site_core.proofs.sources.sources.Goals as goal

pub returns-clause-all : goal.returns-clause-all
returns-clause-all c = IfOk-weaker c.keys_in_order.result
    (λ items. items.items ≡ c.add_if_giving.new.found.keys)
    (λ items. (i : List ℕ) (r : Recall) → IsBlockedBy c.args.captured.now c.args.quarantine.now c.args.event.now i r → Contains items.items i)
    (λ items keys. blocked_listed c.args.captured.now c.args.quarantine.now c.args.event.now c.body.result.now c.body-2.result.now c.new-found.result c.add_inputs.new.found c.add_if_giving.new.found items.items
    c.body.ensures.value c.body-2.ensures.value c.in_ok-add_inputs.ensures c.in_ok-add_if_giving.ensures keys c.requires.making)
    c.keys_in_order.ensures.keys
