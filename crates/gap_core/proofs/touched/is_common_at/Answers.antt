use Rattle.std.proofs.Common.{◌∙◌, sym, ap}
use Rattle.std.specs.Option.{option_map}
use Rattle.gap_core.proofs.TouchedSteps.{common_is}
use Rattle.gap_core.proofs.touched.is_common_at.Goals as goal

pub returns-in-Some : goal.returns-in-Some
returns-in-Some c =
    let (there, back) = common_is c.args.inside.now c.args.wanted.now c.args.place c.in-Some.item.now (sym (sym (ap (option_map (λ i. i.now)) c.in-Some.is) ∙ c.get.ensures)) in
    (λ h. there (c.has.ensures.0 h), λ common. c.has.ensures.1 (back common))
