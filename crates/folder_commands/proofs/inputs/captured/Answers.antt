use Rattle.std.proofs.Common.{ℕ, List, Ok, Err, refl, ◌∙◌, ap, subst, inl, inr}
use Rattle.event_json.specs.declared.untraced.Untraced.{Untraced}
use Rattle.site_core.specs.declared.inputs.SiteInput.TheVariants.{Capture}
use Rattle.folder_commands.specs.Steps.{FailsStep, Steps}
use Rattle.folder_commands.proofs.InputLemmas.{comes_of_step, document_noted, steps_to}
use Rattle.folder_commands.proofs.StepLemmas.{Finds, captured_tells, match_err}
use Rattle.folder_commands.proofs.inputs.captured.Goals as goal

pub returns-in_err-untraced-clause-came : goal.returns-in_err-untraced-clause-came
returns-in_err-untraced-clause-came g c = λ old shows. match_err c.from_residual.result _ _ _ c.from_residual.ensures.1 (inl (c.in_err-untraced.ensures.failed old shows, shows))

pub returns-in_err-done-clause-came : goal.returns-in_err-done-clause-came
returns-in_err-done-clause-came g c = λ old shows.
    match_err c.from_residual-in_err-done.result _ _ _ c.from_residual-in_err-done.ensures.1
    (inr (_, refl, subst (λ (d : List ℕ). FailsStep old (Capture d) (g.K.SiteKeeper.shown c.step.new.keeper) (g.K.SiteKeeper.may c.step.new.keeper) c.in_err-done.field-0.0) c.from_vec.ensures (c.in_err-done.ensures.answered old shows)))

pub came_of-requires : goal.came_of-requires
came_of-requires g c =
    let shown = g.K.SiteKeeper.shown in
    comes_of_step (shown c.args.keeper.now) (shown c.step.new.keeper) _ c.in-Ok.effects c.step.result (c.in_ok-done.was ∙ ap Ok c.in-Ok.is) (inl (_, refl))
    (λ old shows. rw c.in-Ok.is at (c.in_ok-done.ensures.answered old shows)) c.step.ensures.closed

pub returns-in-Ok-clause-came : goal.returns-in-Ok-clause-came
returns-in-Ok-clause-came g c = λ old shows.
    let shown = g.K.SiteKeeper.shown in
    let document = c.args.document.items in
    let steps = subst (λ (d : List ℕ). Steps old (Capture d) (shown c.step.new.keeper) (Ok c.in-Ok.effects)) c.from_vec.ensures (rw c.in-Ok.is at (c.in_ok-done.ensures.answered old shows)) in
    let (new, is, leads) = steps_to old (shown c.step.new.keeper) (Capture document) (Ok c.in-Ok.effects) steps in
    let untraced = c.in_ok-untraced.untraced in
    let places = c.in_ok-untraced.places in
    let named = c.args.noted.places in
    let finds : Finds old.sites document named untraced places = subst (λ (b : List ℕ). Finds old.sites b named untraced places) c.as_slice.ensures.value (c.in_ok-untraced.ensures.found old shows) in
    let tells = captured_tells old (shown c.step.new.keeper) document c.in-Ok.effects named untraced places steps finds in (
      new,
      is,
      inl (record { input = Capture document; asks = refl; done = Ok c.in-Ok.effects; stepped = leads; told = c.came_of.ensures }),
      document_noted old document c.in-Ok.effects c.came_of.result untraced places c.args.noted (record { untraced = c.with_untraced.result; places = places; inside = c.args.noted.inside }) c.came_of.ensures tells
          (ap (λ (u : Untraced). record c.args.noted { untraced = u; places = places }) c.with_untraced.ensures) new leads,
    )

pub returns-in-Err-clause-came : goal.returns-in-Err-clause-came
returns-in-Err-clause-came g c = λ old shows.
    let shown = g.K.SiteKeeper.shown in
    let document = c.args.document.items in
    let steps = subst (λ (d : List ℕ). Steps old (Capture d) (shown c.step.new.keeper) (Err c.in-Err.why)) c.from_vec.ensures (rw c.in-Err.is at (c.in_ok-done.ensures.answered old shows)) in
    let (new, is, leads) = steps_to old (shown c.step.new.keeper) (Capture document) (Err c.in-Err.why) steps in
    (new, is, inl (record { input = Capture document; asks = refl; done = Err c.in-Err.why; stepped = leads; told = refl }), refl)
