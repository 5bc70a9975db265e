use Rattle.std.proofs.Common.{refl, sym, ◌∙◌, ap, subst}
use Rattle.std.specs.Option.{option_map}
use Rattle.keeper_core.specs.declared.faults.KeepFault.TheVariants.{Closed}
use Rattle.world_core.specs.declared.events.WorldEvent.TheVariants.{Send}
use Rattle.world_core.specs.declared.events.Answer.TheVariants.{Fault}
use Rattle.site_core.specs.Naming.{frame_named}
use Rattle.world_core.specs.Kinds.{KeeperTurns}
use Rattle.world_core.specs.Posting.{IsPlaceOf}
use Rattle.world_core.specs.Turns.{Sends, TurnsAt}
use Rattle.world_core.proofs.OneSite.{stays_up, stays_closed}
use Rattle.world_core.proofs.Posted.{place_of_name}
use Rattle.world_core.proofs.turns.send_named_from.Goals as goal

pub returns-in-None : goal.returns-in-None
returns-in-None g c =
    let closed = sym c.view.ensures ∙ ap (option_map (λ s. s.now)) c.in-None.is in
    let sent = c.args.sent.now.items in
    let keeper = c.args.keeper.now in (
      0,
      subst (λ o. IsPlaceOf o c.args.name 0) (sym closed) tt,
      stays_closed _ (g.K.SiteKeeper.may keeper) (λ old new. TurnsAt old sent (Send c.args.site 0) (Fault Closed) new sent) closed (λ q. (refl, refl, refl)),
      subst (λ o. KeeperTurns g.K.SiteKeeper.applies g.K.SiteKeeper.stops g.K.SiteKeeper.reopens o keeper sent (Send c.args.site 0) (Fault Closed) keeper sent) (sym closed) (refl, refl, refl),
    )

pub returns-in-Some : goal.returns-in-Some
returns-in-Some g c =
    let shown = sym c.view.ensures ∙ ap (option_map (λ s. s.now)) c.in-Some.is in
    let sent = c.args.sent.now.items in
    let now = c.send.new.sent.items in
    let keeper = c.args.keeper.now in
    let state = c.in-Some.state.now in
    let (place, is) = place_of_name state.engagement c.args.name in
    let wanted = frame_named state.engagement c.args.name in
    let sends = subst (λ o. Sends o sent c.send.result now) (sym is) (c.send.ensures wanted c.copy_named.ensures.copy c.copy_named.ensures.memory) in (
      place,
      subst (λ o. IsPlaceOf o c.args.name place) (sym shown) is,
      stays_up _ (g.K.SiteKeeper.may keeper) (λ old new. TurnsAt old sent (Send c.args.site place) c.send.result new now) state shown (sends, refl),
      subst (λ o. KeeperTurns g.K.SiteKeeper.applies g.K.SiteKeeper.stops g.K.SiteKeeper.reopens o keeper sent (Send c.args.site place) c.send.result keeper now) (sym shown) (sends, refl),
    )
