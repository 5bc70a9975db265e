use Rattle.std.proofs.Common.{◌<◌, length, sym, ap, ◌∙◌, subst, inl, inr}
use mathlib.Core.Bool.{false≢true}
use Rattle.site_recovery.specs.Checking.{world_at}
use Rattle.site_core.proofs.OneAfterAnother.{lower_or_last}
use Rattle.site_recovery.proofs.SitesInTurn.{site_of, in_place}
use Rattle.site_recovery.proofs.conditions.least_unmet.Goals as goal

pub holds_at-requires-clause-here : goal.holds_at-requires-clause-here
holds_at-requires-clause-here g c =
    let refs = c.args.sites.now in
    let me = c.me-site.ensures.me ∙ in_place refs c.requires.all c.loop-state.state-index c.state-item.result c.loop-state-test.true (sym c.state-item.is) in
    sym (site_of refs c.loop-state.state-index c.state-item.result c.loop-state-test.true (sym c.state-item.is)) ∙ ap (world_at refs) (sym me)

pub returns-then-not-branch : goal.returns-then-not-branch
returns-then-not-branch g c =
    let refs = c.args.sites.now in
    let me = c.me-site.ensures.me ∙ in_place refs c.requires.all c.loop-state.state-index c.state-item.result c.loop-state-test.true (sym c.state-item.is) in (
      subst (λ n. n < length refs) (sym me) c.loop-state-test.true,
      λ holds. false≢true (sym c.if-not-branch.true ∙ c.in_ok-holds_at.ensures.1 holds),
      λ t lower. c.loop-state.invariant t (subst (λ n. t < n) me lower),
    )

pub loop-state-preserved : goal.loop-state-preserved
loop-state-preserved g c =
    let refs = c.args.sites.now in
    let me = c.me-site.ensures.me ∙ in_place refs c.requires.all c.loop-state.state-index c.state-item.result c.loop-state-test.true (sym c.state-item.is) in
    λ s low. elim (lower_or_last s c.loop-state.state-index low) as (λ _. g.C.Condition.holds c.args.condition.now (world_at refs) s) [
      | inl lower ↦ c.loop-state.invariant s lower
      | inr last ↦ subst (g.C.Condition.holds c.args.condition.now (world_at refs)) (me ∙ sym last) (c.in_ok-holds_at.ensures.0 c.if-not-branch.false)
    ]
