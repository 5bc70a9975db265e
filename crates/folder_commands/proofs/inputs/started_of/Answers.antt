use Rattle.std.proofs.Common.{ℕ, Ok, Err, refl, ◌∙◌, ap, inr}
use Rattle.site_core.specs.declared.inputs.SiteInput.TheVariants.{Start}
use Rattle.folder_commands.proofs.InputLemmas.{comes_of_step, item_noted, steps_to}
use Rattle.folder_commands.proofs.StepLemmas.{match_err}
use Rattle.folder_commands.proofs.inputs.started_of.Goals as goal

pub returns-in_err-done-clause-came : goal.returns-in_err-done-clause-came
returns-in_err-done-clause-came g c = λ old shows. match_err c.from_residual-in_err-done.result _ _ _ c.from_residual-in_err-done.ensures.1 (c.in_err-done.ensures.answered old shows)

pub came_of-requires : goal.came_of-requires
came_of-requires g c =
    let shown = g.K.SiteKeeper.shown in
    comes_of_step (shown c.args.keeper.now) (shown c.step.new.keeper) _ c.in-Ok.effects c.step.result (c.in_ok-done.was ∙ ap Ok c.in-Ok.is) (inr (_, refl))
    (λ old shows. rw c.in-Ok.is at (c.in_ok-done.ensures.answered old shows)) c.step.ensures.closed

pub returns-in-Ok-clause-came : goal.returns-in-Ok-clause-came
returns-in-Ok-clause-came g c = λ old shows.
    let (new, is, leads) = steps_to old (g.K.SiteKeeper.shown c.step.new.keeper) (Start c.args.item) (Ok c.in-Ok.effects) (rw c.in-Ok.is at (c.in_ok-done.ensures.answered old shows)) in
    let counted = c.in_ok-count.ensures old shows in (
      new,
      is,
      Ok c.in-Ok.effects,
      leads,
      c.came_of.ensures,
      item_noted old c.args.item c.in-Ok.effects c.came_of.result c.in_ok-count.count c.args.noted (record { untraced = c.args.noted.untraced; places = c.args.noted.places; inside = c.saturating_add.result }) c.came_of.ensures counted
          (ap (λ (n : ℕ). record c.args.noted { inside = n }) c.saturating_add.ensures) new leads,
    )

pub returns-in-Err-clause-came : goal.returns-in-Err-clause-came
returns-in-Err-clause-came g c = λ old shows.
    let (new, is, leads) = steps_to old (g.K.SiteKeeper.shown c.step.new.keeper) (Start c.args.item) (Err c.in-Err.why) (rw c.in-Err.is at (c.in_ok-done.ensures.answered old shows)) in
    (new, is, Err c.in-Err.why, leads, refl, refl)
