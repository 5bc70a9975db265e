use Rattle.std.proofs.Common.{◌≡◌, ℕ, Option, Some, None, refl, ap, sym, ◌∙◌, subst}
use Rattle.std.specs.Prelude.{option_and_then, option_map, string_bytes}
use Rattle.std.proofs.lemmas.Result.{on_ok_weaker}
use Rattle.frame_core.specs.Numbers.{Message}
use Rattle.frame_core.specs.Rows.{row_of}
use Rattle.frame_core.specs.declared.frames.Frame.{Frame}
use Rattle.site_core.specs.Emitting.{message_frame}
use Rattle.script_core.specs.Pumping.{AddsText, Carries, answer_to, message_from}
use Rattle.script_core.specs.Sending.{owed_signal, row_frame}
use Rattle.script_core.specs.State.{up_at}
use Rattle.script_core.proofs.PumpLemmas.{carries_none, exchanged}
use Rattle.script_core.proofs.running.Running.exchange.Goals as goal

pub returns-in_default : goal.returns-in_default
returns-in_default c =
    let w = c.args.self.now in
    let site = c.args.site in
    let number = c.args.number in
    let text = string_bytes c.args.text.now in
    let gone : message_from w site number ≡ None = ap (option_and_then (row_frame number)) (sym c.in_default.ensures) in
    exchanged site number w w w text text text (carries_none w text (message_from w site number) gone) (carries_none w text (answer_to w (message_from w site number)) (ap (answer_to w) gone))

pub returns-in_default-row : goal.returns-in_default-row
returns-in_default-row c =
    let w = c.args.self.now in
    let site = c.args.site in
    let number = c.args.number in
    let text = string_bytes c.args.text.now in
    let old = c.in-Some.state.now in
    let gone : message_from w site number ≡ None =
    ap (option_and_then (row_frame number)) (sym c.in-Some.ensures) ∙ ap (option_map (λ row. message_frame old.engagement.me (number, row))) (sym c.in_default-row.ensures) in
    exchanged site number w w w text text text (carries_none w text (message_from w site number) gone) (carries_none w text (answer_to w (message_from w site number)) (ap (answer_to w) gone))

pub returns : goal.returns
returns c =
    let w = c.args.self.now in
    let site = c.args.site in
    let number = c.args.number in
    let old = c.in-Some.state.now in
    let up : up_at w site ≡ Some old = sym c.in-Some.ensures in
    let row = row_of c.in-Some-row.row in
    let frame = message_frame old.engagement.me (number, row) in
    let is : row_frame number old ≡ Some frame = ap (option_map (λ x. message_frame old.engagement.me (number, x))) (sym c.in-Some-row.ensures) in
    let from : message_from w site number ≡ Some frame = ap (option_and_then (row_frame number)) up ∙ is in
    let mid = c.carry.new.self in
    let after = c.answer_back.new.self in
    let goes = subst (λ (o : Option Frame). AddsText (Carries o) w mid (string_bytes c.args.text.now) (string_bytes c.carry.new.text)) (sym from) (c.in_ok-carry.ensures old frame up is refl) in
    let answers : answer_to mid (message_from w site number) ≡ option_and_then (owed_signal (record { site = c.me.result; number = number })) (up_at mid row.dest) =
    ap (answer_to mid) from ∙ ap (λ (k : ℕ). let m : Message = record { site = k; number = number } in option_and_then (owed_signal m) (up_at mid row.dest)) (sym c.me.ensures.me) in
    on_ok_weaker c.answer_back.result
    (λ h. exchanged site number w mid after (string_bytes c.args.text.now) (string_bytes c.carry.new.text) (string_bytes c.answer_back.new.text) goes
    (subst (λ (o : Option Frame). AddsText (Carries o) mid after (string_bytes c.carry.new.text) (string_bytes c.answer_back.new.text)) (sym answers) h))
    c.answer_back.ensures
