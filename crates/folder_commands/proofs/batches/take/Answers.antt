use Rattle.std.proofs.Common.{ap, sym, ◌∙◌, inl, inr, refl, subst, string_bytes}
use Rattle.recall_outcomes.specs.Batches.{with_one}
use Rattle.recall_outcomes.specs.declared.batches.Totals.{Totals}
use Rattle.folder_commands.specs.Batches.{standing}
use Rattle.folder_commands.specs.Inputs.{AreNoted, input_of}
use Rattle.folder_commands.specs.declared.inputs.InputNotes.{InputNotes}
use Rattle.folder_commands.proofs.BatchLemmas.{breaks_one}
use Rattle.folder_commands.proofs.StepLemmas.{match_err}
use Rattle.folder_commands.proofs.batches.take.Goals as goal

pub returns-in_err-came : goal.returns-in_err-came
returns-in_err-came g c =
    record {
      lasts = c.done_with.ensures.stored;
      came = λ start at.
          match_err c.from_residual.result _ _ _ c.from_residual.ensures.1
          (breaks_one (g.S.InputSink.takes c.args.sink.now) c.args.run.now.sites g.K.SiteKeeper.shown g.K.SiteKeeper.may start (input_of c.args.input) _ _ _ (inl (c.in_err-came.ensures.came start.site at.shows, sym at.hears)));
    }

pub returns-in_err-take : goal.returns-in_err-take
returns-in_err-take g c =
    record {
      lasts = c.done_with.ensures.stored;
      came = λ start at.
          let (new, shows, comes, noted) = c.in_ok-came.ensures.came start.site at.shows in
          match_err c.from_residual-in_err-take.result _ _ _ c.from_residual-in_err-take.ensures.1
          (breaks_one (g.S.InputSink.takes c.args.sink.now) c.args.run.now.sites g.K.SiteKeeper.shown g.K.SiteKeeper.may start (input_of c.args.input) _ _ _
          (inr (record { came = c.in_ok-came.came; new = new; comes = comes; shows = shows; cause = c.in_err-take.ensures.failed })));
    }

pub returns : goal.returns
returns g c =
    record {
      lasts = c.done_with.ensures.stored;
      came = λ start at.
          let (new, shows, comes, noted) = c.in_ok-came.ensures.came start.site at.shows in
          let takes = (g.S.InputSink.takes c.args.sink.now) in
          let sites = c.args.run.now.sites in
          let source = string_bytes c.args.input.source in
          let came = c.in_ok-came.came in
          let told = subst (λ s. takes c.args.output.now sites s came c.take.new.output) c.as_str.ensures.value c.in_ok-take.ensures.taken in
          let counts = sym (ap (λ x. x.totals) at.counts) in
          let before = c.replace-noted.ensures.value ∙ sym (ap (λ x. x.noted) at.counts) in
          let end = standing new c.take.new.output (record { totals = c.with.result; noted = c.in_ok-came.noted }) in (
            end,
            record { shows = shows; hears = refl; counts = refl; lists = refl },
            (
              end,
              record {
                came = came;
                comes = comes;
                told = subst (λ s. takes s sites source came c.take.new.output) (sym at.hears) told;
                counted = c.with.ensures ∙ ap (λ (t : Totals). with_one t came) counts;
                noted = subst (λ (u : InputNotes). AreNoted c.args.input.doing start.site c.args.input.bytes.items came u c.in_ok-came.noted) before noted;
              },
              refl,
            ),
          );
    }
