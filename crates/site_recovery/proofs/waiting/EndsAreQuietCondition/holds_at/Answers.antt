use Rattle.std.proofs.Common.{◌↔◌, ◌≡◌, sym, subst, ◌∙◌, ap}
use Rattle.std.specs.Prelude.{IsTrue}
use Rattle.std.proofs.lemmas.Result.{IfOk-weaker}
use Rattle.frame_core.specs.Numbers.{Recall}
use Rattle.site_recovery.specs.Checking.{world_at}
use Rattle.site_recovery.specs.Fit.{IsEnded, EndsAreQuietAt}
use Rattle.site_recovery.proofs.MapsOfSites.{Each, each_row}
use Rattle.site_recovery.proofs.waiting.EndsAreQuietCondition.holds_at.Goals as goal

pub returns : goal.returns
returns c =
    let W = world_at c.args.sites.now in
    let s = c.args.site in
    IfOk-weaker c.each_entry.result
    (λ b. IsTrue b ↔ Each c.outbox.result.now.entries (λ n x. x.recall.site ≡ s → IsEnded W x.recall → ⊥))
    (λ b. IsTrue b ↔ EndsAreQuietAt W s)
    (λ b decides.
    let each = each_row W s c.args.state.now c.requires.here b c.outbox.result.now.entries c.outbox.ensures.entries (λ n x. x.recall.site ≡ s → IsEnded W x.recall → ⊥) decides in (
      λ h r at is n x stands same. each.0 h n x stands (ap (λ (z : Recall). z.site) same ∙ at) (subst (IsEnded W) (sym same) is),
      λ quiet. each.1 (λ n x stands at is. quiet x.recall at is n x stands (λ i. x.recall)),
    ))
    c.each_entry.ensures
