use Rattle.std.proofs.Common.{sym, subst, refl}
use Rattle.std.proofs.lemmas.Option.{MatchOption-at_some}
use Rattle.std.proofs.lemmas.Result.{IfOk-weaker}
use Rattle.site_core.specs.declared.inputs.SiteInput.TheVariants.{Start}
use Rattle.recall_text.specs.Answer.{answer_of}
use Rattle.script_core.specs.Tasks.{RecallRead}
use Rattle.script_core.proofs.running.Running.recall_at.Goals as goal

pub returns-in-Some-clause-ok : goal.returns-in-Some-clause-ok
returns-in-Some-clause-ok c =
    let w = c.args.self.now in
    let read = MatchOption-at_some _ _ c.in-Some.root c.in-Some.is c.in_ok-root.ensures.ok in
    IfOk-weaker c.hand_over.result _ _
    (λ a hands. subst (λ r. RecallRead w c.args.site r (answer_of a) c.hand_over.new.self) (sym read.0) hands)
    (c.hand_over.ensures (Start c.in-Some.root) refl)
