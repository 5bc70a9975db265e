use Rattle.std.proofs.Common.{◌≡◌, true, false, Some, ap, sym, ◌∙◌, arith, rules, below_more}
use Rattle.std.specs.Prelude.{is_some}
use Rattle.script_core.specs.State.{up_at, up_in}
use Rattle.script_core.proofs.UpLemmas.{first_is, none_is}
use Rattle.script_core.proofs.running.Running.first_down.Goals as goal

pub returns-then-not-is_up : goal.returns-then-not-is_up
returns-then-not-is_up c =
    let w = c.args.self.now in
    let n = c.loop-number.number in
    let down : is_some (up_at w c.site_at-site.result) ≡ false = search rules in
    let here : is_some (up_in w.world.sites n) ≡ false = ap (λ k. is_some (up_in w.world.sites k)) (sym c.site_at-site.ensures) ∙ down in
    ap Some c.site_at-site.ensures ∙ sym (first_is w.world.sites n (omega arith) c.loop-number.invariant here)

pub returns : goal.returns
returns c =
    let sites = c.args.self.now.world.sites in sym (none_is sites (λ k below. c.loop-number.invariant k (omega arith)))

pub loop-number-preserved : goal.loop-number-preserved
loop-number-preserved c =
    let w = c.args.self.now in
    let n = c.loop-number.number in
    let up : is_some (up_at w c.site_at-site.result) ≡ true = search rules in
    let here : is_some (up_in w.world.sites n) ≡ true = ap (λ k. is_some (up_in w.world.sites k)) (sym c.site_at-site.ensures) ∙ up in
    below_more _ _ c.loop-number.invariant here
