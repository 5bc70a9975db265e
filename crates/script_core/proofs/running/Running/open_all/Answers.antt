use Rattle.std.proofs.Common.{◌<◌, ℕ, ◌+◌, length, refl, ap, ◌∙◌, arith}
use Rattle.recall_text.specs.State.{World}
use Rattle.script_core.specs.Pumping.{with_opened}
use Rattle.script_core.proofs.OpenLemmas.{opened_all, opened_count, opened_next, with_standings}
use Rattle.script_core.proofs.running.Running.open_all.Goals as goal

pub loop-number-init : goal.loop-number-init
loop-number-init c = refl

pub open_where_down-requires : goal.open_where_down-requires
open_where_down-requires c =
    let w = c.args.self.now in
    let count = ap (λ (x : World). length x.world.sites) c.loop-number.invariant ∙ opened_count w.world.sites c.loop-number.number in
    omega (arith, count)

pub loop-number-preserved : goal.loop-number-preserved
loop-number-preserved c =
    let w = c.args.self.now in
    let n = c.loop-number.number in
    let within : n < length w.world.sites = omega arith in
    c.in_ok-open_where_down.ensures ∙ ap (λ (k : ℕ). with_opened c.loop-number.self k) c.site_at.ensures ∙ ap (λ (x : World). with_opened x n) c.loop-number.invariant
    ∙ ap (with_standings w) (opened_next w.world.sites n (n + 1) within refl)

pub returns : goal.returns
returns c =
    let w = c.args.self.now in c.loop-number.invariant ∙ ap (with_standings w) (opened_all w.world.sites c.loop-number.number (omega arith))
