use Rattle.std.proofs.Common.{refl, sym, ◌∙◌}
use Rattle.world_core.specs.Worlds.{Up}
use Rattle.world_core.specs.declared.events.WorldEvent.TheVariants.{Stop}
use Rattle.world_core.specs.declared.events.Answer.TheVariants.{Fault, NoFrame, NoMemory}
use Rattle.keeper_core.specs.declared.faults.KeepFault.TheVariants.{Closed}
use Rattle.world_core.specs.Turns.{TurnsAt}
use Rattle.world_core.proofs.OneSite.{shown_up, shown_none, stays_up, stays_closed, stop_without_memory, stop_without_frame, stops_found, stop_unfound}
use Rattle.world_core.proofs.turns.stop_at.Goals as goal

pub returns-then-is_ok-clause-world : goal.returns-then-is_ok-clause-world
returns-then-is_ok-clause-world g c new s =
    let up = shown_up _ c.view.result _ c.is_none.result c.view.ensures c.is_none.ensures c.if-is_none.false in
    let found = sym c.in-Ok-Some.ensures.found ∙ c.in-Ok-Some.field-0-is in
    (Up up.0, up.1, (stops_found up.0 _ c.in-Ok-Some.input c.args.keep _ _ _ (g.K.SiteKeeper.may c.stop.new.self) found (sym c.is_ok.ensures.value ∙ c.if-is_ok.true) (c.stop.ensures.open up.0 up.1) new s, refl))

pub returns-else-is_ok-clause-world : goal.returns-else-is_ok-clause-world
returns-else-is_ok-clause-world g c new s =
    let up = shown_up _ c.view.result _ c.is_none.result c.view.ensures c.is_none.ensures c.if-is_none.false in
    let found = sym c.in-Ok-Some.ensures.found ∙ c.in-Ok-Some.field-0-is in
    (Up up.0, up.1, (stop_unfound up.0 _ c.in-Ok-Some.input c.args.keep _ _ _ (g.K.SiteKeeper.may c.stop.new.self) found (sym c.is_ok.ensures.value ∙ c.if-is_ok.false) (c.stop.ensures.open up.0 up.1) new s, refl))

pub returns-then-is_none-clause-world : goal.returns-then-is_none-clause-world
returns-then-is_none-clause-world g c =
    let k = c.args.keeper.now in
    let closed = shown_none _ c.view.result _ c.is_none.result c.view.ensures c.is_none.ensures c.if-is_none.true in
    stays_closed _ (g.K.SiteKeeper.may k) (λ old new. TurnsAt old c.args.sent.now (Stop c.args.site c.args.input c.args.keep) (Fault Closed) new c.args.sent.now) closed (λ q. (refl, refl, refl))

pub returns-in-Err-clause-world : goal.returns-in-Err-clause-world
returns-in-Err-clause-world g c =
    let k = c.args.keeper.now in
    let up = shown_up _ c.view.result _ c.is_none.result c.view.ensures c.is_none.ensures c.if-is_none.false in
    stays_up _ (g.K.SiteKeeper.may k) (λ old new. TurnsAt old c.args.sent.now (Stop c.args.site c.args.input c.args.keep) NoMemory new c.args.sent.now) up.0 up.1 (stop_without_memory up.0 _ c.args.keep c.in-Err.ensures.memory, refl)

pub returns-in-Ok-None-clause-world : goal.returns-in-Ok-None-clause-world
returns-in-Ok-None-clause-world g c =
    let k = c.args.keeper.now in
    let up = shown_up _ c.view.result _ c.is_none.result c.view.ensures c.is_none.ensures c.if-is_none.false in
    stays_up _ (g.K.SiteKeeper.may k) (λ old new. TurnsAt old c.args.sent.now (Stop c.args.site c.args.input c.args.keep) NoFrame new c.args.sent.now) up.0 up.1 (stop_without_frame up.0 _ c.args.keep (sym c.in-Ok-None.ensures.found ∙ c.in-Ok-None.field-0-is), refl)
