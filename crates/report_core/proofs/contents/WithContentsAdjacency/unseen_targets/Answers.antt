use Rattle.std.proofs.Common.{rules, ◌≡◌, ◌≢◌, subst, sym}
use Rattle.trace_core.specs.Chains.{sites_at}
use Rattle.trace_core.specs.Groups.{IsGivenBy}
use Rattle.trace_core.specs.Searches.{AreUnseen}
use Rattle.report_core.specs.Traces.{LeadsOn}
use Rattle.report_core.proofs.ContentsTraced.{unseen_apart, unseen_with}
use Rattle.report_core.proofs.contents.WithContentsAdjacency.unseen_targets.Goals.{then-eq+in_ok-push_items, else-eq}
use Rattle.report_core.proofs.contents.WithContentsAdjacency.unseen_targets.Goals as goal

pub returns : goal.returns
returns c =
    let sites = sites_at c.args.self.now.sites.now in
    let root = c.args.self.now.root.now in
    let inside = c.args.self.now.inside.now in
    let p = c.args.pair.now in
    let seen = c.args.seen.now in
    let seen' = c.unseen_targets.new.seen in
    let old = c.in_ok-found.found.items in
    elim c.if-eq.branch as (λ _. AreUnseen (LeadsOn sites root inside p) (IsGivenBy sites) seen seen' c.if-eq.found.items) [
      | then-eq+in_ok-push_items w ↦
          let same : p ≡ root = search rules in
          subst (λ found. AreUnseen (LeadsOn sites root inside p) (IsGivenBy sites) seen seen' found.items) (sym w.found-is)
          (unseen_with sites root inside p seen seen' old w.push_items.new.found.items same c.in_ok-found.ensures.unseen w.in_ok-push_items.ensures)
      | else-eq w ↦
          let apart : p ≢ root = search rules in
          subst (λ found. AreUnseen (LeadsOn sites root inside p) (IsGivenBy sites) seen seen' found.items) (sym w.found-is)
          (unseen_apart sites root inside p seen seen' old apart c.in_ok-found.ensures.unseen)
    ]
