use Rattle.std.proofs.Common.{◌≡◌, ◌↔◌, ℕ, Some, refl, subst}
use Rattle.std.specs.FinMap.{get}
use Rattle.std.specs.Prelude.{IsTrue}
use Rattle.std.proofs.lemmas.Result.{IfOk-weaker}
use Rattle.frame_core.specs.declared.rows.Row.{Row}
use Rattle.site_recovery.specs.Checking.{world_at}
use Rattle.site_recovery.specs.Fit.{IsTaken}
use Rattle.site_recovery.proofs.MapsOfSites.{Each, each_row}
use Rattle.site_recovery.proofs.telling.TakingTestRefSiteState.passes.Goals as goal

pub returns : goal.returns
returns c =
    let t = c.args.self.now in
    let state = c.args.state.now.now in
    let W = world_at t.sites.now in
    IfOk-weaker c.each_entry.result
    (λ b. IsTrue b ↔ Each c.outbox.result.now.entries (λ n x. IsTaken W t.to (record { site = c.me.result; number = n }) x))
    (λ b. IsTrue b ↔ ((n : ℕ) (x : Row) → get state.engagement.outbox n ≡ Some x → IsTaken W t.to (record { site = state.engagement.me; number = n }) x))
    (λ b decides. subst (λ z. IsTrue b ↔ ((n : ℕ) (x : Row) → get state.engagement.outbox n ≡ Some x → IsTaken W t.to (record { site = z; number = n }) x)) c.me.ensures.me
    (each_row (λ _. state) 0 state refl b c.outbox.result.now.entries c.outbox.ensures.entries
    (λ n x. IsTaken W t.to (record { site = c.me.result; number = n }) x) decides))
    c.each_entry.ensures
