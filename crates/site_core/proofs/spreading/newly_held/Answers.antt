use Rattle.std.proofs.Common.{◌≡◌, not, filter, IfOk}
use Rattle.std.specs.Prelude.{Ok, Err}
use Rattle.site_core.specs.Quarantines.{held}
use Rattle.site_core.specs.Spreading.{AreNewlyHeld}
use Rattle.site_core.proofs.Newly.{newly}
use Rattle.site_core.proofs.spreading.newly_held.Goals as goal

pub returns : goal.returns
returns c =
    let s = c.args.captured.now in
    let q = c.args.quarantine.now in
    let r = c.args.recall in
    let found = c.in_ok-items.items.items in
    elim c.not_held.result as (λ answer. IfOk answer (λ items. items.items ≡ filter (λ j. not (held q r j)) found) → IfOk answer (λ items. AreNewlyHeld s q r c.args.item.now items.items)) [
      | Ok items ↦ λ is. newly s q r c.args.item.now found items.items c.in_ok-items.ensures.ascending (λ j free. c.in_ok-items.ensures.exact j) is
      | Err fault ↦ λ is. is
    ] c.not_held.ensures
