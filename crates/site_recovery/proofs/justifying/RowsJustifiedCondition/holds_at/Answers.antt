use Rattle.std.proofs.Common.{◌≡◌, ◌↔◌, ℕ, Some, subst}
use Rattle.std.specs.Prelude.{IsTrue}
use Rattle.std.proofs.lemmas.Result.{IfOk-weaker}
use Rattle.frame_core.specs.declared.rows.Row.{Row}
use Rattle.site_recovery.specs.Checking.{world_at}
use Rattle.site_recovery.specs.Fit.{IsJust, RowsAreJust}
use Rattle.site_recovery.specs.Looks.{row}
use Rattle.site_recovery.proofs.MapsOfSites.{Each, each_row}
use Rattle.site_recovery.proofs.justifying.RowsJustifiedCondition.holds_at.Goals as goal

pub returns : goal.returns
returns c =
    let W = world_at c.args._sites.now in
    let s = c.args._site in
    let state = c.args.state.now in
    IfOk-weaker c.each_entry.result
    (λ b. IsTrue b ↔ Each c.outbox.result.now.entries (λ _ x. IsJust state x))
    (λ b. IsTrue b ↔ RowsAreJust W s)
    (λ b decides. subst (λ z. IsTrue b ↔ ((n : ℕ) (x : Row) → row W s n ≡ Some x → IsJust z x)) c.requires.here
    (each_row W s state c.requires.here b c.outbox.result.now.entries c.outbox.ensures.entries (λ _ x. IsJust state x) decides))
    c.each_entry.ensures
