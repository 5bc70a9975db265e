use Rattle.std.proofs.Common.{arith}
use Rattle.std.proofs.lemmas.List.{get_or_default}
use Rattle.trace_core.specs.Chains.{sites_at}
use Rattle.gap_core.specs.Sources.{IsPackedBySource}
use Rattle.gap_core.proofs.Notings.{all_noted, one_more_noted}
use Rattle.gap_core.proofs.WalkSteps.{inside_noted}
use Rattle.gap_core.proofs.walks.note_inside.Goals as goal

pub loop-source-preserved : goal.loop-source-preserved
loop-source-preserved c =
    one_more_noted (IsPackedBySource (sites_at c.args.sites.now) c.args.at c.args.item.now) c.sources_of-source-items.result.now c.loop-source.source-index _ c.loop-source-test.true
    (get_or_default c.sources_of-source-items.result.now c.loop-source.source-index _ _ (omega (arith, c.loop-source-test.true))) c.args.found.now c.loop-source.found c.note_from.new.found c.loop-source.invariant c.in_ok-note_from.ensures

pub returns : goal.returns
returns c =
    inside_noted (sites_at c.args.sites.now) c.args.index.now c.args.at c.args.item.now c.sources_of-source-items.result.now c.sources_of-source-items.ensures c.args.found.now c.loop-source.found
    (all_noted (IsPackedBySource (sites_at c.args.sites.now) c.args.at c.args.item.now) c.sources_of-source-items.result.now c.loop-source.source-index c.loop-source-test.false c.args.found.now c.loop-source.found c.loop-source.invariant)
