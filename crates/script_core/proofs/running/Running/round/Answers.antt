use Rattle.std.proofs.Common.{◌≡◌, ℕ, string_bytes, ap, ◌∙◌, subst, arith, length}
use Rattle.std.specs.List.{range_with_len}
use Rattle.recall_text.specs.State.{World}
use Rattle.script_core.specs.Pumping.{AddsText, Each, TakesPart}
use Rattle.script_core.proofs.PumpLemmas.{adds_next, adds_none}
use Rattle.script_core.proofs.running.Running.round.Goals as goal

pub loop-number-init : goal.loop-number-init
loop-number-init c = adds_none TakesPart c.open_all.new.self (string_bytes c.args.text.now)

pub loop-number-preserved : goal.loop-number-preserved
loop-number-preserved c =
    let old = c.loop-number.self in
    let new = c.take_part.new.self in
    adds_next TakesPart c.loop-number.number c.open_all.new.self old new (string_bytes c.args.text.now) (string_bytes c.loop-number.text) (string_bytes c.take_part.new.text) c.loop-number.invariant
    (subst (λ (k : ℕ). AddsText (TakesPart k) old new (string_bytes c.loop-number.text) (string_bytes c.take_part.new.text)) c.site_at.ensures c.in_ok-take_part.ensures)

pub returns : goal.returns
returns c =
    let w = c.args.self.now in
    let end = c.loop-number.self in
    let (text, run, is) = c.loop-number.invariant in
    let opened = c.in_ok-open_all.ensures in
    let count = c.count-number-end.ensures.sites ∙ ap (λ (x : World). length x.sites) opened in
    let all : c.loop-number.number ≡ length w.sites = omega (arith, count) in
    (text, subst (λ (x : World). Each TakesPart (range_with_len 0 (length w.sites)) x text end) opened (subst (λ (k : ℕ). Each TakesPart (range_with_len 0 k) c.open_all.new.self text end) all run), is)
