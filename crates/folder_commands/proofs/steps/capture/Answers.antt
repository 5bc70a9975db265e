use Rattle.std.proofs.Common.{ℕ, List, [], ◌∷◌, refl, sym, subst, ◌∙◌, inl, inr}
use Rattle.recall_outcomes.specs.declared.faults.Fault.TheVariants.{NoMemory}
use Rattle.site_core.specs.declared.inputs.SiteInput.TheVariants.{Capture}
use Rattle.site_folders.specs.FileCalls.{Failed, Led, ReadFile}
use Rattle.site_folders.proofs.CallsInTurn.{handed_on, led_so}
use Rattle.site_folders.proofs.VainLemmas.{asks_first, none_asks, opens_failed, opens_out}
use Rattle.folder_commands.specs.Steps.{CapturesFile, StepsAt}
use Rattle.folder_commands.proofs.StepLemmas.{FailsAt, Finds, at_none, capture_broke, capture_done, list_out, refused_breaks, vain_led}
use Rattle.folder_commands.proofs.steps.capture.Goals as goal

pub returns-in_err-sites-clause-failed : goal.returns-in_err-sites-clause-failed
returns-in_err-sites-clause-failed g c = handed_on c.from_residual.result _ _ c.from_residual.ensures.1 (led_so g.F.Files.does _ _ (λ calls vain. inl vain) c.in_err-sites.ensures.failed)

pub returns-in_err-outcome-clause-failed : goal.returns-in_err-outcome-clause-failed
returns-in_err-outcome-clause-failed g c =
    let does = g.F.Files.does in
    handed_on c.from_residual-in_err-outcome.result _ _ c.from_residual-in_err-outcome.ensures.1
    (led_so does _ _ (λ calls vain. inl vain) (list_out does g.K.SiteKeeper.shown c.args.folder.now _ _ c.in_ok-sites.sites c.in_ok-sites.ensures.read))

pub returns-in_default-clause-calls : goal.returns-in_default-clause-calls
returns-in_default-clause-calls g c =
    at_none g.F.Files.does c.args.folder.now c.args.site.now (λ ss. CapturesFile g.K.SiteKeeper.shown g.K.SiteKeeper.stored c.args.folder.now ss c.args.file.now) c.plain.result _ _ c.in_ok-sites.sites c.in_ok-outcome.outcome
    c.in_ok-sites.ensures.read (sym c.find.ensures ∙ c.in_default.is) c.plain.ensures.sites c.plain.ensures.outcome c.plain.ensures.notes c.in_ok-outcome.ensures

pub returns-in_err-document-clause-failed : goal.returns-in_err-document-clause-failed
returns-in_err-document-clause-failed g c =
    let does = g.F.Files.does in
    let shown = g.K.SiteKeeper.shown in
    let folder = c.args.folder.now in
    let sites = c.in_ok-sites.sites in
    handed_on c.from_residual-in_err-document.result _ _ c.from_residual-in_err-document.ensures.1
    (led_so does _ _ (λ calls vain. inl vain)
    (vain_led does shown folder _ _ _ _ sites c.in_ok-sites.ensures.read
    (record { calls = Failed c.args.file.now _ ∷ []; are = opens_failed shown folder sites c.args.file.now _; led = (c.read.new.self, c.in_err-document.ensures.failed, refl) })))

pub returns-in_err-untraced-clause-failed : goal.returns-in_err-untraced-clause-failed
returns-in_err-untraced-clause-failed g c =
    let does = g.F.Files.does in
    let shown = g.K.SiteKeeper.shown in
    let folder = c.args.folder.now in
    let sites = c.in_ok-sites.sites in
    let read = ReadFile c.args.file.now c.in_ok-document.document.items in
    handed_on c.from_residual-in_err-untraced.result _ _ c.from_residual-in_err-untraced.ensures.1
    (led_so does _ _ (λ calls vain. inl vain)
    (vain_led does shown folder _ _ _ _ sites c.in_ok-sites.ensures.read
    (record {
      calls = read ∷ [];
      are = opens_out shown folder sites _ (read ∷ []) c.in_err-untraced.ensures.failed (asks_first read [] tt none_asks);
      led = (c.read.new.self, c.in_ok-document.ensures.read, refl);
    })))

pub returns-in_err-done-clause-failed : goal.returns-in_err-done-clause-failed
returns-in_err-done-clause-failed g c =
    let shown = g.K.SiteKeeper.shown in
    let may = g.K.SiteKeeper.may in
    let failed = g.K.SiteKeeper.failed in
    let stored = g.K.SiteKeeper.stored in
    let folder = c.args.folder.now in
    let sites = c.in_ok-sites.sites in
    let step = subst (λ (d : List ℕ). Led g.F.Files.does c.read.new.self c.step_at.new.files (FailsAt g.F.Files.does shown may failed stored folder sites c.in-Some.number (Capture d) c.in_err-done.field-0.0)) c.from_vec.ensures c.in_err-done.ensures.failed in
    handed_on c.from_residual-in_err-done.result _ _ c.from_residual-in_err-done.ensures.1
    (capture_broke g.F.Files.does shown may failed stored folder c.args.site.now c.args.file.now _ _ _ _ _ sites c.in-Some.number c.in_ok-document.document.items c.in_ok-sites.ensures.read (sym c.find.ensures ∙ c.in-Some.is)
    c.in_ok-document.ensures.read step)

pub returns-in_err-outcome-2-clause-failed : goal.returns-in_err-outcome-2-clause-failed
returns-in_err-outcome-2-clause-failed g c =
    let shown = g.K.SiteKeeper.shown in
    let may = g.K.SiteKeeper.may in
    let failed = g.K.SiteKeeper.failed in
    let stored = g.K.SiteKeeper.stored in
    let folder = c.args.folder.now in
    let sites = c.in_ok-sites.sites in
    let document = c.in_ok-document.document.items in
    let done = c.in_ok-done.done in
    let step = subst (λ (d : List ℕ). Led g.F.Files.does c.read.new.self c.step_at.new.files (StepsAt shown stored folder sites c.in-Some.number (Capture d) done)) c.from_vec.ensures c.in_ok-done.ensures.calls in
    handed_on c.from_residual-in_err-outcome-2.result _ _ c.from_residual-in_err-outcome-2.ensures.1
    (capture_broke g.F.Files.does shown may failed stored folder c.args.site.now c.args.file.now NoMemory _ _ _ _ sites c.in-Some.number document c.in_ok-sites.ensures.read (sym c.find.ensures ∙ c.in-Some.is) c.in_ok-document.ensures.read
    (led_so g.F.Files.does _ _ (λ calls at. inr (refused_breaks g.F.Files.does shown may failed stored folder sites c.in-Some.number (Capture document) done calls c.in_err-outcome-2.ensures.failed at)) step))

pub returns-clause-calls : goal.returns-clause-calls
returns-clause-calls g c =
    let shown = g.K.SiteKeeper.shown in
    let stored = g.K.SiteKeeper.stored in
    let folder = c.args.folder.now in
    let sites = c.in_ok-sites.sites in
    let document = c.in_ok-document.document.items in
    let done = c.in_ok-done.done in
    let untraced = c.in_ok-untraced.untraced in
    let step = subst (λ (d : List ℕ). Led g.F.Files.does c.read.new.self c.step_at.new.files (StepsAt shown stored folder sites c.in-Some.number (Capture d) done)) c.from_vec.ensures c.in_ok-done.ensures.calls in
    let places = c.in_ok-untraced.places in
    let finds = subst (λ (named : List (List ℕ)). Finds sites document named untraced places) c.new.ensures
    (subst (λ (b : List ℕ). Finds sites b c.new.result untraced places) c.as_slice.ensures.value c.in_ok-untraced.ensures.found) in
    capture_done g.F.Files.does shown g.K.SiteKeeper.may g.K.SiteKeeper.failed stored folder c.args.site.now c.args.file.now _ _ _ _ sites c.in-Some.number document done untraced places _ c.in_ok-sites.ensures.read (sym c.find.ensures ∙ c.in-Some.is)
    c.in_ok-document.ensures.read step refl c.in_ok-outcome-2.ensures.told finds c.noted-notes.ensures
