use Rattle.std.proofs.Common.{◌∙◌, Some, sym, ap, arith}
use Rattle.std.specs.Borrow.{Bor}
use Rattle.std.specs.List.{Contains}
use Rattle.trace_core.specs.Chains.{sites_at}
use Rattle.trace_core.specs.Sites.{SiteEvents}
use Rattle.trace_core.proofs.Visiting.{site_stands}
use Rattle.gap_core.specs.MissedSteps.{IsMissedStepTo}
use Rattle.gap_core.proofs.Additions.{more_before}
use Rattle.gap_core.proofs.MissedStepLists.{all_numbers}
use Rattle.gap_core.proofs.missed_steps.note_site.Goals as goal

pub loop-number-preserved : goal.loop-number-preserved
loop-number-preserved c =
    more_before (IsMissedStepTo (sites_at c.args.sites.now) c.args.at) c.loop-number.number (Contains c.args.steps.now.items) (Contains c.loop-number.steps.items) (Contains c.note_number.new.steps.items)
    c.loop-number.invariant c.in_ok-note_number.ensures

pub returns : goal.returns
returns c =
    let own = c.index-sites-at.result in
    let so = site_stands c.args.sites.now c.args.at own (omega (arith, c.requires.at)) ∙ ap (λ (r : Bor SiteEvents). Some r.now) (sym c.index-sites-at.is) in
    all_numbers (sites_at c.args.sites.now) c.args.at own.now so c.read_sites.ensures c.loop-number.number c.args.steps.now.items c.loop-number.steps.items
    (omega (arith, c.loop-number-test.false)) c.loop-number.invariant
