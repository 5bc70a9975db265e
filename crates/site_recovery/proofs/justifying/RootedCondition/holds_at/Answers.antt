use Rattle.std.proofs.Common.{◌≡◌, ◌↔◌, ℕ, Some, subst}
use Rattle.std.specs.Prelude.{IsTrue}
use Rattle.std.proofs.lemmas.Result.{IfOk-weaker}
use Rattle.scholten_core.specs.declared.own_recalls.Own.{Own}
use Rattle.site_core.specs.Ways as ways
use Rattle.site_recovery.specs.Checking.{world_at}
use Rattle.site_recovery.specs.Fit.{RootsAreHeld}
use Rattle.site_recovery.specs.Looks.{own}
use Rattle.site_recovery.proofs.MapsOfSites.{Each, each_own}
use Rattle.site_recovery.proofs.justifying.RootedCondition.holds_at.Goals as goal

pub returns : goal.returns
returns c =
    let W = world_at c.args._sites.now in
    let s = c.args.site in
    let state = c.args.state.now in
    IfOk-weaker c.each_entry.result
    (λ b. IsTrue b ↔ Each c.own_recalls.result.now.entries (λ k o. ways.Holds state (record { site = s; number = k }) o.root))
    (λ b. IsTrue b ↔ RootsAreHeld W s)
    (λ b decides. subst (λ z. IsTrue b ↔ ((k : ℕ) (o : Own) → own W s k ≡ Some o → ways.Holds z (record { site = s; number = k }) o.root)) c.requires.here
    (each_own W s state c.requires.here b c.own_recalls.result.now.entries c.own_recalls.ensures.entries (λ k o. ways.Holds state (record { site = s; number = k }) o.root) decides))
    c.each_entry.ensures
