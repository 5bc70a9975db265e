use Rattle.std.proofs.Common.{◌≡◌, Some, true, ap, sym, ◌∙◌, rules}
use Rattle.std.specs.Prelude.{is_some}
use Rattle.std.proofs.lemmas.Result.{on_ok_weaker}
use Rattle.site_core.specs.declared.inputs.SiteInput.TheVariants as inputs
use Rattle.world_core.specs.Turns.{frame_at}
use Rattle.recall_text.specs.State.{World}
use Rattle.script_core.specs.State.{up_at}
use Rattle.script_core.proofs.PumpLemmas.{carried}
use Rattle.script_core.proofs.TaskLemmas.{delivered, last_sent, some_is}
use Rattle.script_core.proofs.running.Running.carry.Goals as goal

pub returns : goal.returns
returns c =
    λ old frame up emits to.
    let w = c.args.self.now in
    let (place, sent) = c.in_ok-at.ensures old frame up emits in
    let mid = c.emit.new.self in
    let stays : is_some (up_at mid c.args.to) ≡ true = search rules in
    let (q, stands) = some_is (up_at mid c.args.to) stays in
    let there : frame_at mid.world.sent c.in_ok-at.at ≡ Some frame = ap (λ (x : World). frame_at x.world.sent c.in_ok-at.at) sent ∙ last_sent w.world.sent frame c.in_ok-at.at place in
    let (standing, happens, changed) = c.in_ok-outcome.ensures q (inputs.Deliver frame) stands (delivered mid.world.sent c.in_ok-at.at c.args.to frame there (sym to)) in
    on_ok_weaker c.push_outcome.result
    (λ e. carried w mid c.hand.new.self c.args.to frame q c.in_ok-outcome.outcome standing _ _ _ sent to stands happens changed c.names.ensures e)
    c.push_outcome.ensures
