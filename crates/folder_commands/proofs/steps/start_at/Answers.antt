use Rattle.std.specs.Prelude.{⊤}
use Rattle.std.proofs.Common.{[], ◌∷◌, Err, refl, ap, ◌∙◌, inl, inr}
use Rattle.site_folders.specs.FileCalls.{ClosedSite}
use Rattle.site_folders.specs.Keepers.{opens_site}
use Rattle.site_folders.proofs.CallsInTurn.{err_was, handed_on, led_so}
use Rattle.site_core.specs.declared.inputs.SiteInput.TheVariants.{Start}
use Rattle.site_folders.specs.Missing.{CountsOwn}
use Rattle.folder_commands.specs.Steps.{Steps}
use Rattle.folder_commands.proofs.StepLemmas.{counted_so, match_so}
use Rattle.folder_commands.proofs.steps.start_at.Goals as goal

pub returns-in_err-keeper-clause-failed : goal.returns-in_err-keeper-clause-failed
returns-in_err-keeper-clause-failed g c =
    handed_on c.from_residual.result _ _ c.from_residual.ensures.1 (led_so g.F.Files.does _ _ (λ calls vain. inl vain) c.in_err-keeper.ensures.failed)

pub returns-clause-calls : goal.returns-clause-calls
returns-clause-calls g c =
    let keeper = c.in_ok-keeper.keeper in
    let after = c.start_of-done.new.keeper in
    let (before, opened) = c.in_ok-keeper.ensures.keeps in
    counted_so
    (λ r. Steps before (Start c.args.item) (g.K.SiteKeeper.shown after) r.0) _ (CountsOwn before c.args.item) _
    (λ r stepped counts. record {
      calls = opens_site c.args.folder.now c.args.sites.now c.args.site keeper ∷ ClosedSite after ∷ [];
      are = (
        record {
          keeper = keeper;
          before = before;
          opened = opened;
          after = after;
          stepped = stepped;
          lasts = c.start_of-done.ensures.stored opened.lasts;
          calls_are = refl;
        },
        counts,
      );
      led = (c.open_site.new.files, c.in_ok-keeper.ensures.opened, (c.close_site.new.self, c.close_site.ensures, refl));
    })
    c.start_of-done.result c.inside_of-inside.result (c.start_of-done.ensures.answered before opened.shows.shows) c.start_of-done.ensures.inside (c.inside_of-inside.ensures before opened.shows.shows)

pub returns-clause-failed : goal.returns-clause-failed
returns-clause-failed g c =
    let keeper = c.in_ok-keeper.keeper in
    let after = c.start_of-done.new.keeper in
    let (before, opened) = c.in_ok-keeper.ensures.keeps in
    err_was c.start_of-done.result
    (λ f was fails. record {
      calls = opens_site c.args.folder.now c.args.sites.now c.args.site keeper ∷ ClosedSite after ∷ [];
      are = inr (record {
        keeper = keeper;
        before = before;
        opened = opened;
        after = after;
        broke = fails;
        caused = λ device. c.start_of-done.ensures.cause (was ∙ ap Err device);
        lasts = c.start_of-done.ensures.stored opened.lasts;
        calls_are = refl;
      });
      led = (c.open_site.new.files, c.in_ok-keeper.ensures.opened, (c.close_site.new.self, c.close_site.ensures, refl));
    })
    (match_so {P' = λ d. ⊤} c.start_of-done.result (λ d stepped. tt) (λ f fails. fails) (c.start_of-done.ensures.answered before opened.shows.shows))
