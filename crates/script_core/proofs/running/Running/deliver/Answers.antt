use Rattle.std.proofs.Common.{◌≡◌, ℕ, List, sym, subst, rules}
use Rattle.std.proofs.lemmas.Result.{IfOk-weaker}
use Rattle.frame_core.specs.Rows.{frame_of}
use Rattle.site_core.specs.declared.inputs.SiteInput.TheVariants.{Deliver}
use Rattle.recall_text.specs.Answer.{answer_of}
use Rattle.recall_text.specs.Words.{message_text}
use Rattle.script_core.specs.Tasks.{Delivers, Hands, message_of}
use Rattle.script_core.proofs.TaskLemmas.{delivered}
use Rattle.script_core.proofs.running.Running.deliver.Goals as goal

pub returns : goal.returns
returns c =
    let w = c.args.self.now in
    let frame = frame_of c.in-Some.frame in
    let site = c.addressee-site.result in
    let after = c.hand_over.new.self in
    let about : c.as_str.result.now ≡ message_text w.sites (message_of frame) = search rules in
    IfOk-weaker c.hand_over.result _ _
    (λ a hands. subst (λ o. Delivers w o (answer_of a) after) c.in-Some.ensures
    (subst (λ (n : ℕ). Hands w n (Deliver frame) (message_text w.sites (message_of frame)) (answer_of a) after) c.addressee-site.ensures
    (subst (λ (t : List ℕ). Hands w site (Deliver frame) t (answer_of a) after) about hands)))
    (c.hand_over.ensures (Deliver frame) (delivered w.world.sent c.args.place site frame (sym c.in-Some.ensures) c.addressee-site.ensures))
