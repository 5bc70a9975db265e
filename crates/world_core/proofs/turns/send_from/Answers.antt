use Rattle.std.proofs.Common.{refl, sym, ◌∙◌, ap, subst}
use Rattle.std.specs.Option.{option_map}
use Rattle.keeper_core.specs.declared.faults.KeepFault.TheVariants.{Closed}
use Rattle.world_core.specs.declared.events.WorldEvent.TheVariants.{Send}
use Rattle.world_core.specs.declared.events.Answer.TheVariants.{Fault}
use Rattle.site_core.specs.Emitting.{frame_at}
use Rattle.world_core.specs.Kinds.{KeeperTurns}
use Rattle.world_core.specs.Turns.{TurnsAt}
use Rattle.world_core.proofs.OneSite.{stays_up, stays_closed}
use Rattle.world_core.proofs.turns.send_from.Goals as goal

pub returns-in-None-clause-world : goal.returns-in-None-clause-world
returns-in-None-clause-world g c =
    let closed = sym c.view.ensures ∙ ap (option_map (λ s. s.now)) c.in-None.is in
    let sent = c.args.sent.now.items in
    stays_closed _ (g.K.SiteKeeper.may c.args.keeper.now) (λ old new. TurnsAt old sent (Send c.args.site c.args.place) (Fault Closed) new sent) closed (λ q. (refl, refl, refl))

pub returns-in-Some-clause-world : goal.returns-in-Some-clause-world
returns-in-Some-clause-world g c =
    let shown = sym c.view.ensures ∙ ap (option_map (λ s. s.now)) c.in-Some.is in
    let sent = c.args.sent.now.items in
    let now = c.send.new.sent.items in
    let wanted = frame_at c.in-Some.state.now.engagement c.args.place in
    stays_up _ (g.K.SiteKeeper.may c.args.keeper.now) (λ old new. TurnsAt old sent (Send c.args.site c.args.place) c.send.result new now) c.in-Some.state.now shown (c.send.ensures wanted c.copy_at.ensures.copy c.copy_at.ensures.memory, refl)

pub returns-in-Some-clause-kind : goal.returns-in-Some-clause-kind
returns-in-Some-clause-kind g c =
    let shown = sym c.view.ensures ∙ ap (option_map (λ s. s.now)) c.in-Some.is in
    let sent = c.args.sent.now.items in
    let now = c.send.new.sent.items in
    let keeper = c.args.keeper.now in
    let wanted = frame_at c.in-Some.state.now.engagement c.args.place in
    subst (λ o. KeeperTurns g.K.SiteKeeper.applies g.K.SiteKeeper.stops g.K.SiteKeeper.reopens o keeper sent (Send c.args.site c.args.place) c.send.result keeper now) (sym shown)
    (c.send.ensures wanted c.copy_at.ensures.copy c.copy_at.ensures.memory, refl)
