use Rattle.std.proofs.Common.{◌≡◌, ◌↔◌, sym}
use Rattle.std.specs.Prelude.{IsTrue}
use Rattle.std.specs.List.{Contains}
use Rattle.std.proofs.lemmas.Result.{IfOk-weaker}
use Rattle.frame_core.specs.Numbers.{Recall}
use Rattle.site_core.specs.Quarantines.{held}
use Rattle.site_core.proofs.HeldIndex.{nothing_ascends, holders_found, holders_none}
use Rattle.site_core.proofs.holding.holders.Goals as goal

pub returns-in-Some-clause-exact : goal.returns-in-Some-clause-exact
returns-in-Some-clause-exact c = IfOk-weaker c.in_order.result
    (λ out. out.items ≡ c.in-Some.recalls.now.keys)
    (λ out. (r : Recall) → Contains out.items r ↔ IsTrue (held c.args.quarantine.now r c.args.item.now))
    (λ out keys. holders_found c.args.quarantine.now c.args.item.now c.in-Some.recalls.now out.items keys c.in-Some.ensures)
    c.in_order.ensures.keys

pub returns-in-None-clause-ascending : goal.returns-in-None-clause-ascending
returns-in-None-clause-ascending c = nothing_ascends c.new.result.items c.new.ensures.items

pub returns-in-None-clause-exact : goal.returns-in-None-clause-exact
returns-in-None-clause-exact c = holders_none c.args.quarantine.now c.args.item.now c.new.result.items c.new.ensures.items (λ r. sym (c.in-None.ensures r))
