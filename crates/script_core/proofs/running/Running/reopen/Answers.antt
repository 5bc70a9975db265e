use Rattle.std.proofs.Common.{◌≡◌, false, sym, subst, rules}
use Rattle.std.specs.Prelude.{is_some, slice_get}
use Rattle.std.proofs.lemmas.Result.{IfOk-weaker}
use Rattle.recall_text.specs.Answer.{answer_of}
use Rattle.script_core.specs.State.{up_at}
use Rattle.script_core.specs.Tasks.{Opens}
use Rattle.script_core.proofs.TaskLemmas.{at_site, none_is}
use Rattle.script_core.proofs.UpLemmas.{stands_down}
use Rattle.script_core.proofs.running.Running.reopen.Goals as goal

pub returns : goal.returns
returns c =
    let w = c.args.self.now in
    let site = c.in-Some.site in
    let down : is_some (up_at w site) ≡ false = search rules in
    let (r, at) = stands_down w.world.sites site c.in-Some.ensures.stands (none_is (up_at w site) down) in
    let after = c.open.new.self in
    let changed = c.in_ok-open.ensures r at in
    IfOk-weaker c.open-2.result _ _
    (λ a e. at_site w c.args.name.now site (λ n. Opens w n c.args.name.now (slice_get w.world.sites n) (answer_of a) after) (answer_of a) after (sym c.in-Some.ensures.found)
    (subst (λ o. Opens w site c.args.name.now o (answer_of a) after) (sym at) (e, changed)))
    c.open-2.ensures
