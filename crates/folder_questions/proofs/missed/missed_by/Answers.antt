use Rattle.std.proofs.Common.{◌↔◌, ◌∙◌, List, ap, subst}
use Rattle.std.specs.List.{Contains}
use Rattle.gap_core.specs.Misses.{AreReached}
use Rattle.gap_core.specs.Untold.{IsUntoldIn}
use Rattle.gap_core.specs.declared.untold.UntoldShipment.{UntoldShipment}
use Rattle.recall_outcomes.specs.declared.outcomes.MissedPair.{MissedPair}
use Rattle.site_recovery.specs.Checking.{records_at, world_at}
use Rattle.trace_core.specs.Chains.{sites_at}
use Rattle.trace_core.specs.Sites.{SiteEvents}
use Rattle.trace_core.specs.declared.pairs.Pair.{Pair}
use Rattle.folder_questions.specs.Missed.{AreHolders, TellsAll}
use Rattle.folder_questions.proofs.MissedLemmas.{all_untold_from, missed_is}
use Rattle.folder_questions.proofs.missed.missed_by.Goals as goal

pub returns : goal.returns
returns c =
    let records = records_at c.args.records.now in
    let root = c.args.root.now in
    let first = c.in_ok-reached.reached in
    let last = c.tell_held.new.reached in
    let missed = c.in_ok-missed.missed.items in
    let pairs = c.in_ok-pairs.pairs.items in
    let outside = c.in_ok-outside.outside.items in
    let are = subst (λ (ss : List SiteEvents). AreReached ss root first) (ap sites_at c.as_slice.ensures.value ∙ c.in_ok-captured.ensures) c.in_ok-reached.ensures in
    let holders = subst (λ (ps : List Pair). AreHolders (world_at c.args.records.now) ps pairs) c.as_slice-2.ensures.value c.in_ok-pairs.ensures in
    let tells = subst (λ (ms : List MissedPair). TellsAll ms first last) c.as_slice-3.ensures.value c.in_ok-tell_held.ensures in
    record {
      pairs = missed;
      ascending = c.in_ok-missed.ensures.ascending;
      exact = missed_is records root first last are missed c.in_ok-missed.ensures.exact pairs holders tells;
      held = holders;
      sorted = c.in_ok-outside.ensures.ascending;
      outside = all_untold_from records root first last are missed c.in_ok-missed.ensures.exact pairs holders tells outside
          (subst (λ (ss : List SiteEvents). (x : UntoldShipment) → Contains outside x ↔ IsUntoldIn ss last x) (ap sites_at c.as_slice-4.ensures.value ∙ c.in_ok-captured.ensures) c.in_ok-outside.ensures.exact);
    }
