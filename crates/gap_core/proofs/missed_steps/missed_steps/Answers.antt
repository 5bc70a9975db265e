use Rattle.std.proofs.Common.{[], arith}
use Rattle.std.specs.List.{Contains}
use Rattle.trace_core.specs.Chains.{sites_at}
use Rattle.trace_core.proofs.Visiting.{as_many_sites}
use Rattle.gap_core.specs.MissedSteps.{IsMissedStepAt}
use Rattle.gap_core.proofs.Additions.{more_before}
use Rattle.gap_core.proofs.MissedStepLists.{all_steps}
use Rattle.gap_core.proofs.missed_steps.missed_steps.Goals as goal

pub loop-at-preserved : goal.loop-at-preserved
loop-at-preserved c =
    more_before (IsMissedStepAt (sites_at c.args.sites.now)) c.loop-at.at (Contains []) (Contains c.loop-at.steps.items) (Contains c.note_site.new.steps.items) c.loop-at.invariant c.in_ok-note_site.ensures

pub returns : goal.returns
returns c =
    all_steps (sites_at c.args.sites.now) c.loop-at.at c.loop-at.steps.items (as_many_sites c.args.sites.now c.loop-at.at (omega (arith, c.loop-at-test.false))) c.loop-at.invariant
