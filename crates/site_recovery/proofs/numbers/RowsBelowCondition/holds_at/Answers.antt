use Rattle.std.proofs.Common.{◌↔◌, ◌≡◌, ◌<◌, ◌∙◌, ℕ, Some, ap, subst}
use Rattle.std.specs.Prelude.{IsTrue}
use Rattle.std.proofs.lemmas.Result.{IfOk-weaker}
use Rattle.frame_core.specs.declared.rows.Row.{Row}
use Rattle.site_recovery.specs.Checking.{world_at}
use Rattle.site_recovery.specs.Fit.{RowsAreBelow}
use Rattle.site_recovery.specs.Looks.{row, next_message}
use Rattle.site_recovery.proofs.MapsOfSites.{Each, each_row}
use Rattle.site_recovery.proofs.numbers.RowsBelowCondition.holds_at.Goals as goal

pub returns : goal.returns
returns c =
    let W = world_at c.args._sites.now in
    let s = c.args._site in
    let next : c.next_message-next.result ≡ next_message W s = c.next_message-next.ensures.next ∙ ap (λ z. z.engagement.next_message) c.requires.here in
    IfOk-weaker c.each_entry.result
    (λ b. IsTrue b ↔ Each c.outbox.result.now.entries (λ n _. n < c.next_message-next.result))
    (λ b. IsTrue b ↔ RowsAreBelow W s)
    (λ b decides. subst (λ z. IsTrue b ↔ ((n : ℕ) (x : Row) → row W s n ≡ Some x → n < z)) next
    (each_row W s c.args.state.now c.requires.here b c.outbox.result.now.entries c.outbox.ensures.entries (λ n _. n < c.next_message-next.result) decides))
    c.each_entry.ensures
