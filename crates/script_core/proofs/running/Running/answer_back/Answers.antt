use Rattle.std.proofs.Common.{◌≡◌, Option, Some, ap, sym, ◌∙◌, subst}
use Rattle.std.specs.Prelude.{option_and_then, is_some, not, ◌&&◌, string_bytes}
use Rattle.std.specs.FinMap.{get}
use Rattle.std.proofs.lemmas.Option.{cond_some}
use Rattle.std.proofs.lemmas.Result.{on_ok_weaker}
use Rattle.frame_core.specs.Numbers.{Message}
use Rattle.frame_core.specs.declared.frames.Frame.{Frame}
use Rattle.site_core.specs.Emitting.{is_parent, signal_frame}
use Rattle.world_core.specs.Turns.{addressee}
use Rattle.script_core.specs.Pumping.{AddsText, Carries}
use Rattle.script_core.specs.Sending.{owed_signal}
use Rattle.script_core.specs.State.{up_at}
use Rattle.script_core.proofs.TaskLemmas.{some_is}
use Rattle.script_core.proofs.running.Running.answer_back.Goals as goal

pub returns : goal.returns
returns c =
    let w = c.args.self.now in
    let old = c.in-Some.state.now in
    let m = c.args.message in
    let up : up_at w c.args.site ≡ Some old = sym c.in-Some.ensures in
    let (f, is) = some_is (owed_signal m old) (sym c.may_send.ensures ∙ c.if-not-may_send.false) in
    let (due, frame) = cond_some (is_some (get old.engagement.seen m) && not (is_parent old.engagement m)) (signal_frame old.engagement.me m) f is in
    on_ok_weaker c.carry.result
    (λ h. subst (λ (o : Option Frame). AddsText (Carries o) w c.carry.new.self (string_bytes c.args.text.now) (string_bytes c.carry.new.text)) (sym (ap (option_and_then (owed_signal m)) up ∙ is)) h)
    (c.carry.ensures old f up is (ap addressee (sym frame) ∙ ap (λ (x : Message). x.site) (sym c.message.view_is)))
