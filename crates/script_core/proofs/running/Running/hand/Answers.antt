use Rattle.std.proofs.Common.{◌≡◌, None, Option, ap, ◌∙◌, subst, slice_set}
use Rattle.std.proofs.lemmas.Result.{IfOk-weaker}
use Rattle.keeper_core.specs.declared.faults.Keep.{Keep}
use Rattle.world_core.specs.Worlds.{WorldState}
use Rattle.world_core.specs.Turns.{input_at}
use Rattle.recall_text.specs.State.{World}
use Rattle.script_core.specs.Happening.{Happens, with_site}
use Rattle.script_core.specs.State.{up_in}
use Rattle.script_core.proofs.running.Running.hand.Goals as goal

pub returns : goal.returns
returns c =
    λ old given up there.
    let w = c.args.self.now in
    let inside = c.self.inside in
    let now : record { sites = inside.sites; world = inside.world; armed = inside.armed.items } ≡ record w { armed = slice_set w.armed c.args.site None } = c.self.view_is ∙ c.disarm-armed.ensures.now in
    let same_world : inside.world ≡ w.world = ap (λ (x : World). x.world) now in
    let happens = c.happen.ensures.does old given (ap (λ (x : WorldState). up_in x.sites c.args.site) same_world ∙ up) (ap (λ (x : WorldState). input_at x.sent c.args.site c.args.input) same_world ∙ there) in
    IfOk-weaker c.happen.result _ _
    (λ outcome h. (
      h.0,
      subst (λ (a : Option Keep). Happens old a given outcome h.0) c.disarm-armed.ensures.was h.1,
      ap (λ (x : WorldState). let v : World = record { sites = inside.sites; world = x; armed = inside.armed.items } in v) (h.2 ∙ ap (λ (x : WorldState). with_site x c.args.site h.0) same_world)
          ∙ ap (λ (x : World). let v : World = record { sites = x.sites; world = with_site w.world c.args.site h.0; armed = x.armed } in v) now,
    ))
    happens
