use Rattle.std.proofs.Common.{◌↔◌, ◌≡◌, ◌<◌, ◌∙◌, ℕ, Some, ap, subst}
use Rattle.std.specs.Prelude.{IsTrue}
use Rattle.std.proofs.lemmas.Result.{IfOk-weaker}
use Rattle.scholten_core.specs.declared.own_recalls.Own.{Own}
use Rattle.site_recovery.specs.Checking.{world_at}
use Rattle.site_recovery.specs.Fit.{OwnAreBelow}
use Rattle.site_recovery.specs.Looks.{own, next_recall}
use Rattle.site_recovery.proofs.MapsOfSites.{Each, each_own}
use Rattle.site_recovery.proofs.numbers.OwnBelowCondition.holds_at.Goals as goal

pub returns : goal.returns
returns c =
    let W = world_at c.args._sites.now in
    let s = c.args._site in
    let next : c.next_recall-next.result ≡ next_recall W s = c.next_recall-next.ensures.next ∙ ap (λ z. z.engagement.next_recall) c.requires.here in
    IfOk-weaker c.each_entry.result
    (λ b. IsTrue b ↔ Each c.own_recalls.result.now.entries (λ n _. n < c.next_recall-next.result))
    (λ b. IsTrue b ↔ OwnAreBelow W s)
    (λ b decides. subst (λ z. IsTrue b ↔ ((n : ℕ) (x : Own) → own W s n ≡ Some x → n < z)) next
    (each_own W s c.args.state.now c.requires.here b c.own_recalls.result.now.entries c.own_recalls.ensures.entries (λ n _. n < c.next_recall-next.result) decides))
    c.each_entry.ensures
