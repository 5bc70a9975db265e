use Rattle.std.proofs.Common.{◌≡◌, ◌++◌, List, IfErr, IfOk, refl, sym, subst, inl, inr}
use Rattle.site_core.specs.Records.{Record}
use Rattle.site_folders.specs.Keepers.{AreShown, closes_all, opens_from}
use Rattle.site_folders.proofs.CallsInTurn.{behind_list, calls_then, handed_on, kept_all, kept_shown, kept_stored, led_so}
use Rattle.folder_commands.specs.Missing.{AreMissed}
use Rattle.folder_commands.specs.Runs.{AnswersUnless, BreaksRun, FailsRounds, RunsAll}
use Rattle.folder_commands.proofs.RunLemmas.{told_by}
use Rattle.folder_commands.proofs.StepLemmas.{vain_led}
use Rattle.folder_commands.proofs.runs.run_sites.Goals as goal

pub run_unless-after-requires-clause-shown : goal.run_unless-after-requires-clause-shown
run_unless-after-requires-clause-shown g c =
    let shown = g.K.SiteKeeper.shown in
    let stored = g.K.SiteKeeper.stored in
    let sites = c.in_ok-sites.sites in
    let keepers = c.in_ok-keepers.keepers.items in
    let (records, keep) = c.in_ok-keepers.ensures.keep in
    λ κs lives. (records, kept_shown shown stored sites 0 keepers records keep, kept_all shown stored sites keepers records keep c.in_ok-keepers.ensures.number)

pub returns-in_err-sites-clause-failed : goal.returns-in_err-sites-clause-failed
returns-in_err-sites-clause-failed g c = handed_on c.from_residual.result _ _ c.from_residual.ensures.1 (led_so g.F.Files.does _ _ (λ calls vain. inl vain) c.in_err-sites.ensures.failed)

pub returns-in_err-keepers-clause-failed : goal.returns-in_err-keepers-clause-failed
returns-in_err-keepers-clause-failed g c =
    handed_on c.from_residual-in_err-keepers.result _ _ c.from_residual-in_err-keepers.ensures.1
    (led_so g.F.Files.does _ _ (λ calls vain. inl vain) (vain_led g.F.Files.does g.K.SiteKeeper.shown c.args.folder.now _ _ _ _ c.in_ok-sites.sites c.in_ok-sites.ensures.read c.in_err-keepers.ensures.failed))

pub returns-in_err-done-clause-failed : goal.returns-in_err-done-clause-failed
returns-in_err-done-clause-failed g c =
    let shown = g.K.SiteKeeper.shown in
    let stored = g.K.SiteKeeper.stored in
    let folder = c.args.folder.now in
    let sites = c.in_ok-sites.sites in
    let keepers = c.in_ok-keepers.keepers.items in
    let (records, keep) = c.in_ok-keepers.ensures.keep in
    let after = c.run_unless-after.result.0.items in
    handed_on c.from_residual-in_err-done.result _ _ c.from_residual-in_err-done.ensures.1
    (led_so g.F.Files.does _ _ (λ calls is. inr is)
    (behind_list g.F.Files.does folder (BreaksRun shown g.K.SiteKeeper.failed g.K.SiteKeeper.may g.K.SiteKeeper.reopens g.G.Gate.gives_up stored folder c.args.terms _) _ _ _ sites c.in_ok-sites.ensures.read
    (record {
      calls = opens_from folder sites 0 keepers ++ closes_all after;
      are = record {
        keepers = keepers;
        records = records;
        opened = keep;
        number = c.in_ok-keepers.ensures.number;
        after = after;
        came = inl (subst (λ r. IfErr r (FailsRounds shown g.K.SiteKeeper.failed g.K.SiteKeeper.may g.K.SiteKeeper.reopens g.G.Gate.gives_up c.args.terms keepers after)) c.in_err-done.was c.run_unless-after.ensures.failed);
        lasts = c.run_unless-after.ensures.stored (kept_stored shown stored sites 0 keepers records keep);
        calls_are = refl;
      };
      led = calls_then g.F.Files.does _ _ _ (opens_from folder sites 0 keepers) (closes_all after) c.in_ok-keepers.ensures.opened c.close_all.ensures;
    })))

pub returns-in_err-notes-clause-failed : goal.returns-in_err-notes-clause-failed
returns-in_err-notes-clause-failed g c =
    let shown = g.K.SiteKeeper.shown in
    let stored = g.K.SiteKeeper.stored in
    let folder = c.args.folder.now in
    let sites = c.in_ok-sites.sites in
    let keepers = c.in_ok-keepers.keepers.items in
    let (records, keep) = c.in_ok-keepers.ensures.keep in
    let after = c.run_unless-after.result.0.items in
    handed_on c.from_residual-in_err-notes.result _ _ c.from_residual-in_err-notes.ensures.1
    (led_so g.F.Files.does _ _ (λ calls is. inr is)
    (behind_list g.F.Files.does folder (BreaksRun shown g.K.SiteKeeper.failed g.K.SiteKeeper.may g.K.SiteKeeper.reopens g.G.Gate.gives_up stored folder c.args.terms _) _ _ _ sites c.in_ok-sites.ensures.read
    (record {
      calls = opens_from folder sites 0 keepers ++ closes_all after;
      are = record {
        keepers = keepers;
        records = records;
        opened = keep;
        number = c.in_ok-keepers.ensures.number;
        after = after;
        came = inr (refl, c.in_ok-done.missed.items, c.in_ok-done.done.outcome, c.in_ok-done.done.end, subst (λ r. IfOk r (λ told. AnswersUnless shown g.K.SiteKeeper.failed g.K.SiteKeeper.may c.args.terms told.1.items keepers after told.0.outcome told.0.end)) c.in_ok-done.was c.run_unless-after.ensures.answered);
        lasts = c.run_unless-after.ensures.stored (kept_stored shown stored sites 0 keepers records keep);
        calls_are = refl;
      };
      led = calls_then g.F.Files.does _ _ _ (opens_from folder sites 0 keepers) (closes_all after) c.in_ok-keepers.ensures.opened c.close_all.ensures;
    })))

pub returns-clause-calls : goal.returns-clause-calls
returns-clause-calls g c =
    let shown = g.K.SiteKeeper.shown in
    let stored = g.K.SiteKeeper.stored in
    let failed = g.K.SiteKeeper.failed in
    let folder = c.args.folder.now in
    let sites = c.in_ok-sites.sites in
    let keepers = c.in_ok-keepers.keepers.items in
    let (records, keep) = c.in_ok-keepers.ensures.keep in
    let after = c.run_unless-after.result.0.items in
    behind_list g.F.Files.does folder (λ ss rest. (_ ≡ ss) × RunsAll (g.F.Files.knows c.close_all.new.files) shown failed g.K.SiteKeeper.may stored folder ss c.args.terms _ rest) _ _ _ sites c.in_ok-sites.ensures.read
    (record {
      calls = opens_from folder sites 0 keepers ++ closes_all after;
      are = (
        refl,
        record {
          keepers = keepers;
          records = records;
          opened = keep;
          number = c.in_ok-keepers.ensures.number;
          after = after;
          end = c.into_parts-outcome.result.1;
          missed = c.in_ok-done.missed.items;
          missed_are = subst (λ r. IfOk r (λ told. (rs : List Record) → AreShown shown keepers rs → AreMissed rs told.1.items)) c.in_ok-done.was c.run_unless-after.ensures.missed records (kept_shown shown stored sites 0 keepers records keep);
          told = told_by shown failed g.K.SiteKeeper.may c.args.terms c.in_ok-done.missed.items keepers after _ _ _ _ (sym c.into_parts-outcome.ensures.outcome) (sym c.into_parts-outcome.ensures.end)
              (subst (λ r. IfOk r (λ told. AnswersUnless shown failed g.K.SiteKeeper.may c.args.terms told.1.items keepers after told.0.outcome told.0.end)) c.in_ok-done.was c.run_unless-after.ensures.answered);
          lasts = c.run_unless-after.ensures.stored (kept_stored shown stored sites 0 keepers records keep);
          noted = c.in_ok-notes.ensures;
          calls_are = refl;
        },
      );
      led = calls_then g.F.Files.does _ _ _ (opens_from folder sites 0 keepers) (closes_all after) c.in_ok-keepers.ensures.opened c.close_all.ensures;
    })
