use Rattle.std.proofs.Common.{ap, refl, inl, inr}
use Rattle.recall_outcomes.specs.declared.batches.InputOutcome.TheVariants.{Refused}
use Rattle.site_core.specs.declared.inputs.SiteInput.TheVariants.{Start}
use Rattle.folder_commands.proofs.InputLemmas.{spelled_noted}
use Rattle.folder_commands.proofs.StepLemmas.{match_err, match_so}
use Rattle.folder_commands.proofs.inputs.started.Goals as goal

pub returns-in_err-read-clause-came : goal.returns-in_err-read-clause-came
returns-in_err-read-clause-came g c = λ old shows. match_err c.from_residual.result _ _ _ c.from_residual.ensures.1 (inl (refl, shows))

pub returns-in-Ok-clause-came : goal.returns-in-Ok-clause-came
returns-in-Ok-clause-came g c = λ old shows.
    let item = c.in-Ok.item in
    let read = rw c.in-Ok.is at c.in_ok-read.ensures in
    match_so c.started_of.result
    (λ r (new, is, done, steps, tells, noted). (
      new,
      is,
      inl (record { input = Start item; asks = (item, read, refl); done = done; stepped = steps; told = tells }),
      spelled_noted c.args.spelling old c.args.text.now item r.0 c.args.noted r.1 read noted,
    ))
    (λ fault fails. inr (Start item, (item, read, refl), fails))
    (c.started_of.ensures.came old shows)

pub returns-in-Err-clause-came : goal.returns-in-Err-clause-came
returns-in-Err-clause-came g c = λ old shows. (old, shows, inr (c.in-Err.fault, rw c.in-Err.is at c.in_ok-read.ensures, ap Refused c.refusal_of.ensures, refl), refl)
