use Rattle.std.proofs.Common.{◌∙◌, sym, ap}
use Rattle.std.specs.Option.{option_map}
use Rattle.gap_core.proofs.ElsewhereSteps.{goes_elsewhere}
use Rattle.gap_core.proofs.elsewhere.ships_elsewhere.Goals as goal

pub returns-in-Some : goal.returns-in-Some
returns-in-Some c =
    let (there, back) = goes_elsewhere c.args.site.now c.args.place c.in-Some.event.now c.me.result c.body.result.now (sym (sym (ap (option_map (λ e. e.now)) c.in-Some.is) ∙ c.event.ensures)) c.me.ensures c.body.ensures.value in
    (λ h. there (c.goes_on.ensures.0 h), λ h. c.goes_on.ensures.1 (back h))
