use Rattle.std.proofs.Common.{arith, ⊎_elim}
use Rattle.std.proofs.lemmas.List.{get_or_default}
use Rattle.trace_core.specs.Chains.{sites_at}
use Rattle.trace_core.proofs.Members.{contains_none}
use Rattle.gap_core.specs.Packers.{IsFrom, IsFromSource}
use Rattle.gap_core.proofs.Additions.{all_added, one_more}
use Rattle.gap_core.proofs.PackerSteps.{all_from, none_from}
use Rattle.gap_core.proofs.packers.packers_of.Goals as goal

pub loop-source-init : goal.loop-source-init
loop-source-init c m = (
  λ h. absurd (none_from c.new-packers.result c.new-packers.ensures.empty m h),
  λ h. ⊎_elim (λ none. absurd none) (λ (y, there, p). absurd (contains_none y there)) h,
)

pub loop-source-preserved : goal.loop-source-preserved
loop-source-preserved c =
    one_more (IsFromSource (sites_at c.args.sites.now) c.args.at c.args.container.now) c.sources_of-source-items.result.now c.loop-source.source-index (λ m. ⊥) (IsFrom c.loop-source.packers) (IsFrom c.note_source.new.packers)
    _ c.loop-source-test.true (get_or_default c.sources_of-source-items.result.now c.loop-source.source-index _ _ (omega (arith, c.loop-source-test.true))) c.loop-source.invariant c.in_ok-note_source.ensures

pub returns : goal.returns
returns c =
    all_from c.loop-source.packers (sites_at c.args.sites.now) c.args.index.now c.args.at c.args.container.now c.sources_of-source-items.result.now c.sources_of-source-items.ensures
    (all_added (IsFromSource (sites_at c.args.sites.now) c.args.at c.args.container.now) c.sources_of-source-items.result.now c.loop-source.source-index (λ m. ⊥) (IsFrom c.loop-source.packers) c.loop-source-test.false c.loop-source.invariant)
