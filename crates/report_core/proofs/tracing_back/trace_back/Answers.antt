use Rattle.std.proofs.Common.{◌≡◌, ◌∙◌, ◌↔◌, sym, ap, subst, Some, List}
use Rattle.std.specs.List.{AllZip, Contains}
use Rattle.trace_core.specs.Chains.{Related, sites_at}
use Rattle.trace_core.specs.Pairs.{IsStrictlyAscending}
use Rattle.trace_core.specs.Relations.{Converse, Reaches}
use Rattle.trace_core.specs.Sites.{SiteEvents}
use Rattle.trace_core.specs.Trails.{TellsTrail, TellsTrailBy}
use Rattle.trace_core.specs.declared.pairs.Pair.{Pair}
use Rattle.trace_core.proofs.ChainLaws.{reach_converse}
use Rattle.site_recovery.specs.Checking.{records_at}
use Rattle.site_recovery.specs.Laws.{captured_of}
use Rattle.report_core.specs.Sources.{ByOne}
use Rattle.report_core.specs.Traces.{HasNoSource}
use Rattle.report_core.proofs.OriginsFound.{no_source}
use Rattle.report_core.proofs.TrailsBack.{all_back}
use Rattle.report_core.proofs.tracing_back.trace_back.Goals as goal

pub returns-clause-ok : goal.returns-clause-ok
returns-clause-ok c =
    let records = records_at c.args.sites.now in
    let sites = captured_of records in
    let root : Pair = record { site = c.args.site; item = c.in_ok-copy.field-0 } in
    let found = c.in_ok-found.found in
    let listed : sites_at c.as_slice.result.now ≡ sites = ap sites_at c.as_slice.ensures.value ∙ c.in_ok-captured.ensures in
    let listed' : sites_at c.as_slice-2.result.now ≡ sites = ap sites_at c.as_slice-2.ensures.value ∙ c.in_ok-captured.ensures in
    let own : c.in_ok-sources.sources ≡ sites = c.in_ok-sources.ensures ∙ listed in
    let leads : (p : Pair) → Contains found.pairs p ↔ Reaches (Related sites) p root = λ p.
    let back = subst (λ (s : List SiteEvents). Contains found.pairs p ↔ Reaches (Converse (Related s)) root p) own (c.in_ok-found.ensures.reached p) in
    let turned = reach_converse (Related sites) root p in
    (λ h. turned.0 (back.0 h), λ h. back.1 (turned.1 h)) in
    let told : AllZip (λ p t. TellsTrailBy (Converse (Related sites)) root p (Some t)) found.pairs found.trails = subst (λ (s : List SiteEvents). AllZip (λ p t. TellsTrailBy (Converse (Related s)) root p (Some t)) found.pairs found.trails) own c.in_ok-found.ensures.trails in
    let pairs : c.as_slice-3.result.now ≡ found.pairs = c.as_slice-3.ensures in
    let first_ones : IsStrictlyAscending c.in_ok-origins.origins.items = c.in_ok-origins.ensures.ascending (subst IsStrictlyAscending (sym pairs) c.in_ok-found.ensures.ascending) in
    let left : (p : Pair) → Contains c.in_ok-origins.origins.items p ↔ (Contains found.pairs p × (ByOne found.pairs (Related sites) p → ⊥)) = λ p.
    subst (λ (ps : List Pair). Contains c.in_ok-origins.origins.items p ↔ (Contains ps p × (ByOne ps (Related sites) p → ⊥))) pairs
    (subst (λ (s : List SiteEvents). Contains c.in_ok-origins.origins.items p ↔ (Contains c.as_slice-3.result.now p × (ByOne c.as_slice-3.result.now (Related s) p → ⊥))) listed' (c.in_ok-origins.ensures.exact p)) in
    record {
      root = (λ k. record { site = c.args.site; item = c.in_ok-copy.ensures k });
      ascending = c.in_ok-found.ensures.ascending;
      exact = leads;
      trails = subst (AllZip (λ p t. TellsTrail sites p root (Some t)) found.pairs) (sym c.of-2.ensures) (all_back (Related sites) root found.pairs found.trails told);
      first_ones = subst IsStrictlyAscending (sym c.from_vec.ensures) first_ones;
      origins = λ p. subst (λ (ps : List Pair). Contains ps p ↔ (Contains found.pairs p × HasNoSource records p)) (sym c.from_vec.ensures)
          (let none = no_source (Related sites) root found.pairs leads p in (λ h. none.0 ((left p).0 h), λ h. (left p).1 (none.1 h)));
    }
