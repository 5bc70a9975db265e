use Rattle.std.proofs.Common.{◌≡◌, true, ap, ◌∙◌, rules}
use Rattle.std.specs.Prelude.{is_some}
use Rattle.std.proofs.lemmas.Result.{IfOk-weaker}
use Rattle.recall_text.specs.Answer.{answer_of}
use Rattle.recall_text.specs.State.{World}
use Rattle.script_core.specs.State.{up_at}
use Rattle.script_core.specs.Tasks.{Tells, outcome_said}
use Rattle.script_core.proofs.TaskLemmas.{some_is, where_up}
use Rattle.script_core.proofs.running.Running.hand_over.Goals as goal

pub returns : goal.returns
returns c =
    λ given there.
    let w = c.args.self.now in
    let site = c.args.site in
    let stays : is_some (up_at w site) ≡ true = search rules in
    let (old, up) = some_is (up_at w site) stays in
    let (standing, happens, changed) = c.in_ok-outcome.ensures old given up there in
    IfOk-weaker c.of_outcome.result _ _
    (λ a e. where_up w site old (λ r. Tells w site given c.args.about.now r (answer_of a) c.hand.new.self) (answer_of a) c.hand.new.self up (record {
      outcome = c.in_ok-outcome.outcome;
      standing = standing;
      happens = happens;
      text = e ∙ ap (λ sites. outcome_said sites site c.args.about.now c.in_ok-outcome.outcome) (c.names-2.ensures ∙ ap (λ (x : World). x.sites) changed);
      changed = changed;
    }))
    c.of_outcome.ensures
