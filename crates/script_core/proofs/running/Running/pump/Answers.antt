use Rattle.std.proofs.Common.{◌≡◌, ℕ, ◌-◌, ◌++◌, List, string_bytes, ap, ◌∙◌, subst, arith, rules, length}
use Rattle.std.specs.List.{range_with_len}
use Rattle.std.proofs.lemmas.Result.{IfOk-weaker}
use Rattle.recall_text.specs.Answer.{done}
use Rattle.recall_text.specs.Words.{pumped_text}
use Rattle.script_core.specs.Pumping.{Each, TakesRound}
use Rattle.script_core.proofs.PumpLemmas.{adds_next, adds_none}
use Rattle.script_core.proofs.running.Running.pump.Goals as goal

pub loop-init : goal.loop-init
loop-init c = adds_none (λ round. TakesRound) c.args.self.now (string_bytes c.new-text.result)

pub loop-preserved : goal.loop-preserved
loop-preserved c =
    adds_next (λ round. TakesRound) c.loop.counter c.args.self.now c.loop.self c.round.new.self (string_bytes c.new-text.result) (string_bytes c.loop.text) (string_bytes c.round.new.text) c.loop.invariant c.in_ok-round.ensures

pub returns : goal.returns
returns c =
    let w = c.args.self.now in
    let end = c.loop.self in
    let rounds = c.args.rounds in
    let (text, run, is) = c.loop.invariant in
    let all : c.loop.counter ≡ rounds = omega arith in
    let frames : c.saturating_sub-frames.result ≡ length end.world.sent - length w.world.sent = search rules in
    let told : string_bytes c.loop.text ≡ text = is ∙ ap (λ (t : List ℕ). t ++ text) c.new-text.ensures.bytes in
    IfOk-weaker c.pumped.result _ _
    (λ a e. record {
      text = text;
      run = subst (λ (k : ℕ). Each (λ round. TakesRound) (range_with_len 0 k) w text end) all run;
      told = e ∙ ap (λ (t : List ℕ). done (t ++ pumped_text rounds c.saturating_sub-frames.result)) told ∙ ap (λ (n : ℕ). done (text ++ pumped_text rounds n)) frames;
    })
    c.pumped.ensures
