use Rattle.std.proofs.Common.{◌≡◌, ◌∙◌, ℕ, ◌<◌, length, refl, sym, ap, subst}
use Rattle.std.specs.List.{AllZip}
use Rattle.std.specs.Option.{option_map}
use Rattle.trace_core.specs.Chains.{sites_at}
use Rattle.trace_core.specs.Trails.{TellsTrail}
use Rattle.site_recovery.specs.Checking.{records_at, world_at}
use Rattle.site_recovery.specs.Laws.{captured_of}
use Rattle.report_core.specs.Outside.{AreOutside}
use Rattle.report_core.specs.Reports.{AreHeld}
use Rattle.report_core.proofs.reports.report.Goals as goal

pub returns-clause-ok : goal.returns-clause-ok
returns-clause-ok c =
    let records = records_at c.args.sites.now in
    let places = λ (s : ℕ) (below : s < length records). (c.requires.all s below).place in
    let root = c.in_ok-root.root in
    let listed : sites_at c.as_slice.result.now ≡ captured_of records = ap sites_at c.as_slice.ensures.value ∙ c.in_ok-captured.ensures in
    let trails = subst (λ s. AllZip (TellsTrail s root) c.as_slice-2.result.now c.in_ok-trails.trails) listed c.in_ok-trails.ensures in
    record {
      entry = c.in-Some.own.now;
      begun = sym (sym (ap (option_map (λ o. o.now)) c.in-Some.is) ∙ c.own_recall.ensures);
      root = c.in_ok-root.ensures;
      ended = refl;
      pairs = subst (AreHeld records c.args.recall) (sym c.from_vec.ensures) (record { all = c.in_ok-pairs.ensures.list; ascending = c.in_ok-pairs.ensures.ascending places; exact = c.in_ok-pairs.ensures.held places });
      trails = subst (λ ps. AllZip (TellsTrail (captured_of records) root) ps c.in_ok-trails.trails) (c.as_slice-2.ensures.value ∙ sym c.from_vec.ensures) trails;
      outside = subst (AreOutside (world_at c.args.sites.now) c.args.recall) (sym c.from_vec-2.ensures) c.in_ok-outside.ensures;
    }
