use Rattle.std.proofs.Common.{◌∙◌, Some, sym, ap, arith}
use mathlib.Core.Bool.{false≢true}
use Rattle.std.specs.Borrow.{Bor}
use Rattle.trace_core.specs.Chains.{sites_at}
use Rattle.trace_core.specs.Sites.{SiteEvents}
use Rattle.trace_core.proofs.Visiting.{site_stands}
use Rattle.gap_core.proofs.TouchedSteps.{gap_touched, other_gap}
use Rattle.gap_core.proofs.touched.is_touched.Goals as goal

pub returns-then-not-is_own : goal.returns-then-not-is_own
returns-then-not-is_own c =
    let own = c.index-sites-at.result in
    let so = site_stands c.args.sites.now c.args.at own (omega (arith, c.requires.at)) ∙ ap (λ (r : Bor SiteEvents). Some r.now) (sym c.index-sites-at.is) in (
      λ h. absurd (false≢true h),
      λ it. absurd (other_gap (sites_at c.args.sites.now) c.args.known.now c.requires.known c.args.at own.now so c.args.wanted.now c.args.gap.now (λ same. false≢true (sym c.if-not-is_own.true ∙ c.is_own.ensures.1 same)) it),
    )

pub returns : goal.returns
returns c =
    let own = c.index-sites-at.result in
    let so = site_stands c.args.sites.now c.args.at own (omega (arith, c.requires.at)) ∙ ap (λ (r : Bor SiteEvents). Some r.now) (sym c.index-sites-at.is) in
    let (there, back) = gap_touched (sites_at c.args.sites.now) c.args.known.now c.requires.known c.args.at own.now so c.args.wanted.now c.in_ok-inside.inside c.args.gap.now (c.is_own.ensures.0 c.if-not-is_own.false) c.in_ok-inside.ensures in
    (λ h. there (c.have_common.ensures.0 h), λ it. c.have_common.ensures.1 (back it))
