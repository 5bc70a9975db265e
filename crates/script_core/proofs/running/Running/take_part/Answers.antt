use Rattle.std.proofs.Common.{ℕ, List, get_or, take, string_bytes, sym, ◌∙◌, subst, arith}
use Rattle.std.proofs.lemmas.List.{take_all, take_more}
use Rattle.script_core.specs.Pumping.{AddsText, Each, Exchanges}
use Rattle.script_core.proofs.PumpLemmas.{adds_more, adds_none}
use Rattle.script_core.proofs.running.Running.take_part.Goals as goal

pub loop-number-init : goal.loop-number-init
loop-number-init c = adds_none (Exchanges c.args.site) c.args.self.now (string_bytes c.args.text.now)

pub loop-number-preserved : goal.loop-number-preserved
loop-number-preserved c =
    let w = c.args.self.now in
    let site = c.args.site in
    let items = c.deref-number-items.result.now in
    let k = c.loop-number.number-index in
    subst (λ (xs : List ℕ). AddsText (Each (Exchanges site) xs) w c.exchange.new.self (string_bytes c.args.text.now) (string_bytes c.exchange.new.text)) (sym (take_more items k 0 (omega arith)))
    (adds_more (Exchanges site) (take k items) (get_or items k 0) w c.loop-number.self c.exchange.new.self (string_bytes c.args.text.now) (string_bytes c.loop-number.text) (string_bytes c.exchange.new.text)
    c.loop-number.invariant c.in_ok-exchange.ensures)

pub returns : goal.returns
returns c =
    let w = c.args.self.now in
    let site = c.args.site in
    let items = c.deref-number-items.result.now in
    subst (λ (xs : List ℕ). AddsText (Each (Exchanges site) xs) w c.loop-number.self (string_bytes c.args.text.now) (string_bytes c.loop-number.text))
    (take_all c.loop-number.number-index items (omega arith) ∙ c.deref-number-items.ensures.value ∙ c.in_ok-numbers.ensures) c.loop-number.invariant
