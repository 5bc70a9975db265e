use Rattle.std.proofs.Common.{◌≡◌, ap, subst, ◌∙◌}
use Rattle.scholten_core.specs.Changes.{signalled}
use Rattle.site_core.specs.Records.{Record}
use Rattle.site_core.specs.Told.{told_signal}
use Rattle.site_core.proofs.TakenBack.{foreseen}
use Rattle.site_core.proofs.states.SiteState.foresee.Goals as goal

pub returns : goal.returns
returns c by row has signer =
    let answer : c.foresee.result ≡ (signalled c.args.self.now.engagement c.args.message.number).1 =
    subst (λ m. c.foresee.result ≡ (signalled c.self.inside.diffusion m.number).1) c.message.view_is c.foresee.ensures
    ∙ ap (λ (s : Record). (signalled s.engagement c.args.message.number).1) c.self.view_is in
    foreseen c.args.self.now c.args.message by row c.of_signal.result has signer (c.of_signal.ensures ∙ ap told_signal answer)
