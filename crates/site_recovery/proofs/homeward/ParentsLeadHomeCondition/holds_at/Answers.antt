use Rattle.std.proofs.Common.{◌↔◌}
use Rattle.std.specs.Prelude.{IsTrue}
use Rattle.std.proofs.lemmas.Result.{IfOk-weaker}
use Rattle.site_recovery.specs.Checking.{world_at}
use Rattle.site_recovery.specs.Fit.{IsOnTheWay, ParentsLeadHomeFrom}
use Rattle.site_recovery.proofs.MapsOfSites.{Each, each_parent}
use Rattle.site_recovery.proofs.homeward.ParentsLeadHomeCondition.holds_at.Goals as goal

pub returns : goal.returns
returns c =
    let W = world_at c.args.sites.now in
    let s = c.args.site in
    IfOk-weaker c.each_entry.result
    (λ b. IsTrue b ↔ Each c.parents.result.now.entries (λ r m. IsOnTheWay W s r))
    (λ b. IsTrue b ↔ ParentsLeadHomeFrom W s)
    (λ b decides. each_parent W s c.args.state.now c.requires.here b c.parents.result.now.entries c.parents.ensures.entries (λ r m. IsOnTheWay W s r) decides)
    c.each_entry.ensures
