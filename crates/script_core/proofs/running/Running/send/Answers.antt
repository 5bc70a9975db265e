use Rattle.std.proofs.Common.{◌≡◌, ◌∙◌, Some, sym, subst}
use Rattle.std.proofs.lemmas.Result.{IfOk-weaker}
use Rattle.recall_text.specs.Answer.{answer_of}
use Rattle.script_core.specs.Sending.{row_frame}
use Rattle.script_core.specs.State.{up_at}
use Rattle.script_core.specs.Tasks.{Sends, WhereUp}
use Rattle.script_core.proofs.TaskLemmas.{at_site, some_is, where_up}
use Rattle.script_core.proofs.running.Running.send.Goals as goal

pub returns : goal.returns
returns c =
    let w = c.args.self.now in
    let site = c.in-Some.site in
    let old = c.in-Some-state.state.now in
    let after = c.post.new.self in
    let up : up_at w site ≡ Some old = sym c.in-Some-state.ensures in
    let (f, is) = some_is (row_frame c.args.number old) (sym c.may_send.ensures ∙ c.if-not-may_send.false) in
    IfOk-weaker c.post.result _ _
    (λ a h. at_site w c.args.name.now site (λ n. WhereUp w n (up_at w n) (λ r. Sends w (row_frame c.args.number r) (answer_of a) after) (answer_of a) after) (answer_of a) after (sym c.in-Some.ensures.found)
    (where_up w site old (λ r. Sends w (row_frame c.args.number r) (answer_of a) after) (answer_of a) after up (subst (λ o. Sends w o (answer_of a) after) (sym is) h)))
    (c.post.ensures old f up is)
