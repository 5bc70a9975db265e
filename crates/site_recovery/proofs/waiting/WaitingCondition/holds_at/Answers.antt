use Rattle.std.proofs.Common.{◌↔◌}
use Rattle.std.specs.Prelude.{IsTrue}
use Rattle.std.proofs.lemmas.Result.{IfOk-weaker}
use Rattle.site_recovery.specs.Checking.{world_at}
use Rattle.site_recovery.specs.Fit.{MayWait, WaitsRightlyAt}
use Rattle.site_recovery.proofs.MapsOfSites.{Each, each_row}
use Rattle.site_recovery.proofs.waiting.WaitingCondition.holds_at.Goals as goal

pub returns : goal.returns
returns c =
    let W = world_at c.args.sites.now in
    let s = c.args.site in
    IfOk-weaker c.each_entry.result
    (λ b. IsTrue b ↔ Each c.outbox.result.now.entries (λ n x. MayWait W s x.recall))
    (λ b. IsTrue b ↔ WaitsRightlyAt W s)
    (λ b decides. each_row W s c.args.state.now c.requires.here b c.outbox.result.now.entries c.outbox.ensures.entries (λ n x. MayWait W s x.recall) decides)
    c.each_entry.ensures
