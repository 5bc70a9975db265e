use Rattle.std.proofs.Common.{◌≤◌, ◌∙◌, length, vec_len, refl, ap, arith, slice_set}
use Rattle.world_core.specs.Turns.{site_of}
use Rattle.world_core.specs.declared.events.WorldEvent.TheVariants.{Step, Send, Stop, Reopen}
use Rattle.world_core.proofs.Lifting.{turn_at, turn_lent, no_site, read_at, kept_at, turn_stored}
use Rattle.world_core.proofs.KeeperKinds.{kind_at}
use Rattle.world_core.proofs.turns.take_turn.Goals as goal

pub returns-then-place-len-clause-world : goal.returns-then-place-len-clause-world
returns-then-place-len-clause-world g c =
    let keepers = c.args.keepers.now in
    let k = keepers.ok.0 in
    let past : length keepers.items ≤ site_of c.args.event = omega (arith, c.if-place-len.true, c.number-place.ensures.value, c.site.ensures, c.len.ensures, keepers.ok.0) in
    no_site g.K.SiteKeeper.shown g.K.SiteKeeper.may keepers.items c.args.sent.now.items c.args.event past

pub returns-in-Step-clause-world : goal.returns-in-Step-clause-world
returns-in-Step-clause-world g c =
    let keepers = c.args.keepers.now in
    let told = Step c.in-Step.site c.in-Step.input in
    let was = c.index_mut-keeper.result.now in
    let at = read_at keepers.items c.in-Step.site c.number-place.result (vec_len keepers) c.len.result was (c.number-place.ensures.value ∙ c.site.ensures ∙ ap site_of c.in-Step.is) keepers.ok.0 c.len.ensures c.if-place-len.false c.index_mut-keeper.ensures.value in
    turn_lent g.K.SiteKeeper.shown g.K.SiteKeeper.may keepers.items _ c.args.sent.now.items c.deref.result.now c.args.event told c.step_at.result was c.step_at.new.keeper c.in-Step.is c.deref.ensures.value at (ap (λ n. slice_set keepers.items n c.step_at.new.keeper) (c.number-place.ensures.value ∙ c.site.ensures ∙ ap site_of c.in-Step.is)) c.step_at.ensures.world

pub returns-in-Stop-clause-world : goal.returns-in-Stop-clause-world
returns-in-Stop-clause-world g c =
    let keepers = c.args.keepers.now in
    let told = Stop c.in-Stop.site c.in-Stop.input c.in-Stop.keep in
    let was = c.index_mut-keeper-in-Stop.result.now in
    let at = read_at keepers.items c.in-Stop.site c.number-place.result (vec_len keepers) c.len.result was (c.number-place.ensures.value ∙ c.site.ensures ∙ ap site_of c.in-Stop.is) keepers.ok.0 c.len.ensures c.if-place-len.false c.index_mut-keeper-in-Stop.ensures.value in
    turn_lent g.K.SiteKeeper.shown g.K.SiteKeeper.may keepers.items _ c.args.sent.now.items c.deref-in-Stop.result.now c.args.event told c.stop_at.result was c.stop_at.new.keeper c.in-Stop.is c.deref-in-Stop.ensures.value at (ap (λ n. slice_set keepers.items n c.stop_at.new.keeper) (c.number-place.ensures.value ∙ c.site.ensures ∙ ap site_of c.in-Stop.is)) c.stop_at.ensures.world

pub returns-in-Send-clause-world : goal.returns-in-Send-clause-world
returns-in-Send-clause-world g c =
    let keepers = c.args.keepers.now in
    let told = Send c.in-Send.site c.in-Send.from in
    let was = c.index.result.now in
    let at = read_at keepers.items c.in-Send.site c.number-place.result (vec_len keepers) c.len.result was (c.number-place.ensures.value ∙ c.site.ensures ∙ ap site_of c.in-Send.is) keepers.ok.0 c.len.ensures c.if-place-len.false c.index.ensures in
    turn_at g.K.SiteKeeper.shown g.K.SiteKeeper.may keepers.items keepers.items c.args.sent.now.items _ c.args.event told c.send_from.result was was c.in-Send.is at (kept_at keepers.items c.in-Send.site was at) c.send_from.ensures.world

pub returns-in-Reopen-clause-world : goal.returns-in-Reopen-clause-world
returns-in-Reopen-clause-world g c =
    let r = c.reopen_at.ensures.world in
    turn_lent g.K.SiteKeeper.shown g.K.SiteKeeper.may c.args.keepers.now.items _ c.args.sent.now.items c.deref-in-Reopen.result.now c.args.event (Reopen c.in-Reopen.site) c.reopen_at.result r.0 r.1 c.in-Reopen.is c.deref-in-Reopen.ensures.value r.2 r.3 r.4

pub returns-in-Send-clause-kind : goal.returns-in-Send-clause-kind
returns-in-Send-clause-kind g c =
    let keepers = c.args.keepers.now in
    let told = Send c.in-Send.site c.in-Send.from in
    let was = c.index.result.now in
    let at = read_at keepers.items c.in-Send.site c.number-place.result (vec_len keepers) c.len.result was (c.number-place.ensures.value ∙ c.site.ensures ∙ ap site_of c.in-Send.is) keepers.ok.0 c.len.ensures c.if-place-len.false c.index.ensures in
    kind_at g.K.SiteKeeper.shown g.K.SiteKeeper.applies g.K.SiteKeeper.stops g.K.SiteKeeper.reopens keepers.items keepers.items c.args.sent.now.items c.args.sent.now.items _ c.args.event told c.send_from.result was was c.in-Send.is refl at (kept_at keepers.items c.in-Send.site was at) c.send_from.ensures.kind

pub returns-in-Step-clause-stored : goal.returns-in-Step-clause-stored
returns-in-Step-clause-stored g c =
    let keepers = c.args.keepers.now in
    let was = c.index_mut-keeper.result.now in
    let at = read_at keepers.items c.in-Step.site c.number-place.result (vec_len keepers) c.len.result was (c.number-place.ensures.value ∙ c.site.ensures ∙ ap site_of c.in-Step.is) keepers.ok.0 c.len.ensures c.if-place-len.false c.index_mut-keeper.ensures.value in
    turn_stored g.K.SiteKeeper.stored keepers.items _ c.in-Step.site (was, c.step_at.new.keeper, at, ap (λ n. slice_set keepers.items n c.step_at.new.keeper) (c.number-place.ensures.value ∙ c.site.ensures ∙ ap site_of c.in-Step.is), c.step_at.ensures.stored)

pub returns-in-Stop-clause-stored : goal.returns-in-Stop-clause-stored
returns-in-Stop-clause-stored g c =
    let keepers = c.args.keepers.now in
    let was = c.index_mut-keeper-in-Stop.result.now in
    let at = read_at keepers.items c.in-Stop.site c.number-place.result (vec_len keepers) c.len.result was (c.number-place.ensures.value ∙ c.site.ensures ∙ ap site_of c.in-Stop.is) keepers.ok.0 c.len.ensures c.if-place-len.false c.index_mut-keeper-in-Stop.ensures.value in
    turn_stored g.K.SiteKeeper.stored keepers.items _ c.in-Stop.site (was, c.stop_at.new.keeper, at, ap (λ n. slice_set keepers.items n c.stop_at.new.keeper) (c.number-place.ensures.value ∙ c.site.ensures ∙ ap site_of c.in-Stop.is), c.stop_at.ensures.stored)

pub returns-in-Reopen-clause-stored : goal.returns-in-Reopen-clause-stored
returns-in-Reopen-clause-stored g c = turn_stored g.K.SiteKeeper.stored c.args.keepers.now.items _ c.in-Reopen.site c.reopen_at.ensures.stored
