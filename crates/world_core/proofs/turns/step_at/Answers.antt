use Rattle.std.proofs.Common.{refl, sym, ◌∙◌}
use Rattle.world_core.specs.Worlds.{Up}
use Rattle.world_core.specs.declared.events.WorldEvent.TheVariants.{Step}
use Rattle.world_core.specs.declared.events.Answer.TheVariants.{Fault, NoFrame, NoMemory}
use Rattle.keeper_core.specs.declared.faults.KeepFault.TheVariants.{Closed}
use Rattle.world_core.specs.Turns.{TurnsAt}
use Rattle.world_core.proofs.OneSite.{shown_up, shown_none, stays_up, stays_closed, step_without_memory, step_without_frame, steps_found}
use Rattle.world_core.proofs.turns.step_at.Goals as goal

pub returns-in-Ok-Some-clause-world : goal.returns-in-Ok-Some-clause-world
returns-in-Ok-Some-clause-world g c new s =
    let up = shown_up _ c.view.result _ c.is_none.result c.view.ensures c.is_none.ensures c.if-is_none.false in
    let found = sym c.in-Ok-Some.ensures.found ∙ c.in-Ok-Some.field-0-is in
    (Up up.0, up.1, (steps_found up.0 _ c.in-Ok-Some.input c.apply.result _ _ (g.K.SiteKeeper.may c.apply.new.self) found c.answered.ensures (c.apply.ensures.open up.0 up.1) new s, refl))

pub returns-then-is_none-clause-world : goal.returns-then-is_none-clause-world
returns-then-is_none-clause-world g c =
    let k = c.args.keeper.now in
    let closed = shown_none _ c.view.result _ c.is_none.result c.view.ensures c.is_none.ensures c.if-is_none.true in
    stays_closed _ (g.K.SiteKeeper.may k) (λ old new. TurnsAt old c.args.sent.now (Step c.args.site c.args.input) (Fault Closed) new c.args.sent.now) closed (λ q. (refl, refl, refl))

pub returns-in-Err-clause-world : goal.returns-in-Err-clause-world
returns-in-Err-clause-world g c =
    let k = c.args.keeper.now in
    let up = shown_up _ c.view.result _ c.is_none.result c.view.ensures c.is_none.ensures c.if-is_none.false in
    stays_up _ (g.K.SiteKeeper.may k) (λ old new. TurnsAt old c.args.sent.now (Step c.args.site c.args.input) NoMemory new c.args.sent.now) up.0 up.1 (step_without_memory up.0 _ c.in-Err.ensures.memory, refl)

pub returns-in-Ok-None-clause-world : goal.returns-in-Ok-None-clause-world
returns-in-Ok-None-clause-world g c =
    let k = c.args.keeper.now in
    let up = shown_up _ c.view.result _ c.is_none.result c.view.ensures c.is_none.ensures c.if-is_none.false in
    stays_up _ (g.K.SiteKeeper.may k) (λ old new. TurnsAt old c.args.sent.now (Step c.args.site c.args.input) NoFrame new c.args.sent.now) up.0 up.1 (step_without_frame up.0 _ (sym c.in-Ok-None.ensures.found ∙ c.in-Ok-None.field-0-is), refl)
