use Rattle.std.proofs.Common.{◌∙◌, refl, sym}
use mathlib.Core.Bool.{false≢true}
use Rattle.gap_core.proofs.ElsewhereSteps.{all_own_sites, one_more_own, one_other}
use Rattle.gap_core.proofs.elsewhere.has_other.Goals as goal

pub loop-site-preserved : goal.loop-site-preserved
loop-site-preserved c = one_more_own c.args.me c.args.sites.now c.loop-site.site-index c.site-item.result c.loop-site-test.true c.site-item.is (c.is_same.ensures.0 c.if-not-is_same.false) c.loop-site.invariant

pub returns-then-not-is_same : goal.returns-then-not-is_same
returns-then-not-is_same c = (
  λ h. one_other c.args.me c.args.sites.now c.loop-site.site-index c.site-item.result c.loop-site-test.true c.site-item.is (λ same. false≢true (sym c.if-not-is_same.true ∙ c.is_same.ensures.1 same)),
  λ h. refl,
)

pub returns : goal.returns
returns c = (λ h. absurd (false≢true h), λ h. absurd (all_own_sites c.args.me c.args.sites.now c.loop-site.site-index c.loop-site-test.false c.loop-site.invariant h))
