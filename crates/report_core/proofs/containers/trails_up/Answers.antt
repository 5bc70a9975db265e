use Rattle.std.proofs.Common.{◌≡◌, subst}
use Rattle.std.specs.Prelude.{IfOk}
use Rattle.trace_core.specs.AllFound.{AreAllFound}
use Rattle.trace_core.specs.declared.pairs.Pair.{Pair}
use Rattle.report_core.specs.Containers.{LiesIn}
use Rattle.report_core.proofs.containers.trails_up.Goals as goal

pub returns : goal.returns
returns c =
    let s = c.args.containers.now.site.now in
    let number = c.args.containers.now.number in
    let packings = c.args.containers.now.packings.now in
    let root : Pair = record { site = c.me.result; item = c.in_ok-copy.field-0 } in
    let is : root ≡ record { site = s.me; item = c.args.item.now } = (λ k. record { site = c.me.ensures k; item = c.in_ok-copy.ensures k }) in
    subst (λ (r : Pair). IfOk c.trails_from.result (AreAllFound (LiesIn s.events number packings) r)) is c.trails_from.ensures
