use Rattle.std.proofs.Common.{subst}
use Rattle.std.proofs.lemmas.Result.{on_ok_weaker}
use Rattle.trace_core.specs.Chains.{sites_at}
use Rattle.gap_core.specs.Adding.{AddsToList}
use Rattle.gap_core.specs.MissedSteps.{IsMissedStepTo}
use Rattle.gap_core.proofs.missed_steps.note_number.Goals as goal

pub returns-in-Some : goal.returns-in-Some
returns-in-Some c = on_ok_weaker c.note_to.result
    (subst (λ n. AddsToList c.args.steps.now.items c.note_to.new.steps.items (IsMissedStepTo (sites_at c.args.sites.now) c.args.at n)) c.in-Some.ensures.value)
    c.note_to.ensures
