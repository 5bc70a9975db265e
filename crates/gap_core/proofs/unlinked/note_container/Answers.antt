use Rattle.std.proofs.Common.{arith}
use Rattle.std.specs.List.{Contains}
use Rattle.std.proofs.lemmas.List.{get_or_default}
use Rattle.trace_core.specs.Chains.{sites_at}
use Rattle.gap_core.specs.Unlinked.{IsUnlinkedFrom}
use Rattle.gap_core.specs.declared.sources.Source.{Source}
use Rattle.gap_core.proofs.Additions.{all_added, one_more}
use Rattle.gap_core.proofs.UnlinkedSteps.{all_packers}
use Rattle.gap_core.proofs.unlinked.note_container.Goals as goal

pub loop-source-preserved : goal.loop-source-preserved
loop-source-preserved c =
    one_more (λ (source : Source). IsUnlinkedFrom (sites_at c.args.sites.now) c.args.at c.args.container.now source.from) c.sources_of-source-items.result.now c.loop-source.source-index (Contains c.args.found.now.items) (Contains c.loop-source.found.items) (Contains c.note_from.new.found.items)
    _ c.loop-source-test.true (get_or_default c.sources_of-source-items.result.now c.loop-source.source-index _ _ (omega (arith, c.loop-source-test.true))) c.loop-source.invariant c.in_ok-note_from.ensures

pub returns : goal.returns
returns c =
    all_packers (sites_at c.args.sites.now) c.args.own.now c.requires.own c.args.at c.args.container.now c.sources_of-source-items.result.now c.args.found.now.items c.loop-source.found.items c.sources_of-source-items.ensures
    (all_added (λ (source : Source). IsUnlinkedFrom (sites_at c.args.sites.now) c.args.at c.args.container.now source.from) c.sources_of-source-items.result.now c.loop-source.source-index (Contains c.args.found.now.items) (Contains c.loop-source.found.items) c.loop-source-test.false c.loop-source.invariant)
