use Rattle.std.proofs.Common.{◌≡◌, ◌∙◌, sym, ap, subst, List, Contains}
use Rattle.trace_core.specs.Chains.{sites_at}
use Rattle.trace_core.specs.AllFound.{AreAllFound}
use Rattle.trace_core.specs.Sites.{SiteEvents}
use Rattle.trace_core.specs.declared.pairs.Pair.{Pair}
use Rattle.site_recovery.specs.Checking.{records_at, world_at}
use Rattle.site_recovery.specs.Laws.{captured_of}
use Rattle.report_core.specs.Outside.{AreOutsideOf}
use Rattle.report_core.specs.Traces.{IsReachedWith, LeadsOn}
use Rattle.report_core.proofs.Outgoing.{outside_alike}
use Rattle.report_core.proofs.contents.trace_contents.Goals as goal

pub returns-clause-ok : goal.returns-clause-ok
returns-clause-ok c =
    let records = records_at c.args.sites.now in
    let W = world_at c.args.sites.now in
    let sites = captured_of records in
    let root : Pair = record { site = c.args.site; item = c.in_ok-copy.field-0 } in
    let inside = c.args.inside.now in
    let found = c.in_ok-found.found in
    let listed : sites_at c.as_slice.result.now ≡ sites = ap sites_at c.as_slice.ensures.value ∙ c.in_ok-captured.ensures in
    let all : AreAllFound (LeadsOn sites root inside) root found = subst (λ (s : List SiteEvents). AreAllFound (LeadsOn s root inside) root found) listed c.in_ok-found.ensures in
    let out : AreOutsideOf W (λ p. Contains found.pairs p) c.in_ok-outside.outside.items = subst (λ (ps : List Pair). AreOutsideOf W (λ p. Contains ps p) c.in_ok-outside.outside.items) c.as_slice-2.ensures c.in_ok-outside.ensures in
    record {
      root = (λ k. record { site = c.args.site; item = c.in_ok-copy.ensures k });
      ascending = all.ascending;
      exact = all.reached;
      trails = all.trails;
      outside = subst (AreOutsideOf W (IsReachedWith records root inside)) (sym c.from_vec.ensures) (outside_alike W (λ p. Contains found.pairs p) (IsReachedWith records root inside) c.in_ok-outside.outside.items all.reached out);
    }
