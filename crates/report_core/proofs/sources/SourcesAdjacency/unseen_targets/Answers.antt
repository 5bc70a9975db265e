use Rattle.std.proofs.Common.{List, sym, ap, subst, ◌∙◌}
use Rattle.std.specs.BTreeSet.{BTreeSet}
use Rattle.std.specs.Option.{option_copied}
use Rattle.trace_core.specs.Chains.{Related, sites_at}
use Rattle.trace_core.specs.Relations.{Converse}
use Rattle.trace_core.specs.Searches.{AreUnseen}
use Rattle.trace_core.specs.Sites.{SiteEvents}
use Rattle.trace_core.specs.declared.groups.Group.{Group}
use Rattle.trace_core.specs.declared.pairs.Pair.{Pair}
use Rattle.report_core.specs.Sources.{GoesIntoSeen, or_no_places}
use Rattle.report_core.proofs.UnseenAdded.{sources_found, senders_found}
use Rattle.report_core.proofs.sources.SourcesAdjacency.unseen_targets.Goals.{in-Some+in_ok-push_inputs, in_default}
use Rattle.report_core.proofs.sources.SourcesAdjacency.unseen_targets.Goals as goal

pub returns : goal.returns
returns c =
    let p = c.args.pair.now in
    let own = sites_at c.self.inside.sites.now in
    subst (λ (sites : List SiteEvents). AreUnseen (Converse (Related sites) p) (GoesIntoSeen sites) c.args.seen.now c.match-get.seen c.match-get.found.items) c.self.view_is
    (elim c.match-get.branch as (λ _. AreUnseen (Converse (Related own) p) (GoesIntoSeen own) c.args.seen.now c.match-get.seen c.match-get.found.items) [
      | in-Some+in_ok-push_inputs w ↦
          subst (λ (seen : BTreeSet Group). AreUnseen (Converse (Related own) p) (GoesIntoSeen own) c.args.seen.now seen c.match-get.found.items) (sym w.seen-is)
          (subst (λ (all : List Pair). AreUnseen (Converse (Related own) p) (GoesIntoSeen own) c.args.seen.now w.push_inputs.new.seen all) (ap (λ v. v.items) (sym w.found-is))
          (sources_found own c.self.inside.makers c.self.invariant p c.new-found.result.items c.push_senders.new.found.items c.new-found.ensures.items c.in_ok-push_senders.ensures w.as_slice.result.now
          (w.as_slice.ensures ∙ ap or_no_places (sym (ap option_copied w.in-Some.is) ∙ c.get.ensures.value)) c.args.seen.now w.push_inputs.new.seen w.push_inputs.new.found.items w.in_ok-push_inputs.ensures))
      | in_default w ↦
          subst (λ (seen : BTreeSet Group). AreUnseen (Converse (Related own) p) (GoesIntoSeen own) c.args.seen.now seen c.match-get.found.items) (sym w.seen-is)
          (subst (λ (all : List Pair). AreUnseen (Converse (Related own) p) (GoesIntoSeen own) c.args.seen.now c.args.seen.now all) (ap (λ v. v.items) (sym w.found-is))
          (senders_found own c.self.inside.makers c.self.invariant p c.new-found.result.items c.push_senders.new.found.items c.new-found.ensures.items c.in_ok-push_senders.ensures
          (ap or_no_places (sym (ap option_copied w.in_default.is) ∙ c.get.ensures.value)) c.args.seen.now))
    ])
