use Rattle.std.proofs.Common.{subst}
use Rattle.world_core.specs.Keepers.{AllShow}
use Rattle.world_core.proofs.Showing.{fit_shown, one_shown}
use Rattle.world_core.proofs.worlds.World.new.Goals as goal

pub invariant_of-result : goal.invariant_of-result
invariant_of-result g c =
    let ok = c.in-Ok.ensures.ok in
    let shown = g.K.SiteKeeper.shown in
    let keepers = c.args.keepers.items in
    let all = subst (λ ks. AllShow shown ks ok.0) c.deref.ensures.value ok.1 in
    (fit_shown shown g.K.SiteKeeper.may keepers _ ok.0 all ok.2 c.new.ensures.items, one_shown shown g.K.SiteKeeper.may keepers _ ok.0 all ok.2)
