use Rattle.std.proofs.Common.{◌≡◌, ℕ, List, [], Some, ap, sym, rules}
use Rattle.std.proofs.lemmas.Result.{IfOk-weaker}
use Rattle.site_core.specs.declared.inputs.SiteInput.TheVariants.{Capture}
use Rattle.recall_text.specs.Answer.{answer_of}
use Rattle.script_core.specs.Tasks.{Hands}
use Rattle.script_core.proofs.TaskLemmas.{at_site}
use Rattle.script_core.proofs.running.Running.capture.Goals as goal

pub returns : goal.returns
returns c =
    let w = c.args.self.now in
    let document = c.args.document.now in
    let bytes : c.from_vec.result ≡ document = search rules in
    IfOk-weaker c.hand_over.result _ _
    (λ a hands. at_site w c.args.name.now c.in-Some.site (λ n. Hands w n (Capture document) [] (answer_of a) c.hand_over.new.self) (answer_of a) c.hand_over.new.self (sym c.in-Some.ensures.found) hands)
    (c.hand_over.ensures (Capture document) (ap (λ (b : List ℕ). Some (Capture b)) bytes))
