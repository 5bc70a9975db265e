use Rattle.std.proofs.Common.{◌≡◌, true, false, ◌∙◌, rules}
use Rattle.std.specs.Prelude.{is_some}
use Rattle.std.proofs.lemmas.Result.{on_ok_weaker}
use Rattle.script_core.specs.State.{up_at}
use Rattle.script_core.proofs.OpenLemmas.{opened_down, opened_up}
use Rattle.script_core.proofs.TaskLemmas.{none_is, some_is}
use Rattle.script_core.proofs.UpLemmas.{stands_down, stands_up}
use Rattle.script_core.proofs.running.Running.open_where_down.Goals as goal

pub returns-then-is_up : goal.returns-then-is_up
returns-then-is_up c =
    let w = c.args.self.now in
    let site = c.args.site in
    let up : is_some (up_at w site) ≡ true = search rules in
    let (r, at) = some_is (up_at w site) up in
    opened_up w site r (stands_up w.world.sites site r at)

pub returns : goal.returns
returns c =
    let w = c.args.self.now in
    let site = c.args.site in
    let down : is_some (up_at w site) ≡ false = search rules in
    let (r, at) = stands_down w.world.sites site c.requires (none_is (up_at w site) down) in
    on_ok_weaker c.open.result (λ h. h ∙ opened_down w site r at) (c.open.ensures r at)
