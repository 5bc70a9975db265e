use Rattle.std.proofs.Common.{◌∙◌, refl, sym, inl, inr}
use Rattle.item_spellings.specs.Keys.{item_reading}
use Rattle.recall_outcomes.specs.declared.faults.Fault.TheVariants.{NoMemory}
use Rattle.site_core.specs.declared.inputs.SiteInput.TheVariants.{Start}
use Rattle.site_folders.proofs.CallsInTurn.{handed_on, led_so}
use Rattle.folder_commands.specs.Steps.{StartsItem}
use Rattle.folder_commands.proofs.StepLemmas.{at_none, list_out, refused_breaks, start_broke, start_done, start_unspelled}
use Rattle.folder_commands.proofs.steps.start.Goals as goal

pub returns-in_err-sites-clause-failed : goal.returns-in_err-sites-clause-failed
returns-in_err-sites-clause-failed g c = handed_on c.from_residual.result _ _ c.from_residual.ensures.1 (led_so g.F.Files.does _ _ (λ calls vain. inl vain) c.in_err-sites.ensures.failed)

pub returns-in_err-outcome-clause-failed : goal.returns-in_err-outcome-clause-failed
returns-in_err-outcome-clause-failed g c =
    handed_on c.from_residual-in_err-outcome.result _ _ c.from_residual-in_err-outcome.ensures.1
    (led_so g.F.Files.does _ _ (λ calls vain. inl vain) (list_out g.F.Files.does g.K.SiteKeeper.shown c.args.folder.now _ _ c.in_ok-sites.sites c.in_ok-sites.ensures.read))

pub returns-in_default-clause-calls : goal.returns-in_default-clause-calls
returns-in_default-clause-calls g c =
    at_none g.F.Files.does c.args.folder.now c.args.site.now (λ ss. StartsItem g.K.SiteKeeper.shown g.K.SiteKeeper.stored c.args.folder.now ss (item_reading c.args.item.now)) c.plain.result _ _ c.in_ok-sites.sites c.in_ok-outcome.outcome
    c.in_ok-sites.ensures.read (sym c.find.ensures ∙ c.in_default.is) c.plain.ensures.sites c.plain.ensures.outcome c.plain.ensures.notes c.in_ok-outcome.ensures

pub returns-in_err-read-clause-failed : goal.returns-in_err-read-clause-failed
returns-in_err-read-clause-failed g c =
    handed_on c.from_residual-in_err-read.result _ _ c.from_residual-in_err-read.ensures.1
    (led_so g.F.Files.does _ _ (λ calls vain. inl vain) (list_out g.F.Files.does g.K.SiteKeeper.shown c.args.folder.now _ _ c.in_ok-sites.sites c.in_ok-sites.ensures.read))

pub returns-in_err-done-in-Ok-clause-failed : goal.returns-in_err-done-in-Ok-clause-failed
returns-in_err-done-in-Ok-clause-failed g c =
    handed_on c.from_residual-in_err-done-in-Ok.result _ _ c.from_residual-in_err-done-in-Ok.ensures.1
    (start_broke g.F.Files.does g.K.SiteKeeper.shown g.K.SiteKeeper.may g.K.SiteKeeper.failed g.K.SiteKeeper.stored c.args.folder.now c.args.site.now c.args.item.now _ _ _ _ c.in_ok-sites.sites c.in-Some.number c.in-Ok.key
    c.in_ok-sites.ensures.read (sym c.find.ensures ∙ c.in-Some.is) (sym c.in_ok-read.ensures ∙ c.in-Ok.is) c.in_err-done-in-Ok.ensures.failed)

pub returns-in_err-outcome-in-Ok-clause-failed : goal.returns-in_err-outcome-in-Ok-clause-failed
returns-in_err-outcome-in-Ok-clause-failed g c =
    let shown = g.K.SiteKeeper.shown in
    let may = g.K.SiteKeeper.may in
    let failed = g.K.SiteKeeper.failed in
    let stored = g.K.SiteKeeper.stored in
    let folder = c.args.folder.now in
    let sites = c.in_ok-sites.sites in
    handed_on c.from_residual-in_err-outcome-in-Ok.result _ _ c.from_residual-in_err-outcome-in-Ok.ensures.1
    (start_broke g.F.Files.does shown may failed stored folder c.args.site.now c.args.item.now NoMemory _ _ _ sites c.in-Some.number c.in-Ok.key
    c.in_ok-sites.ensures.read (sym c.find.ensures ∙ c.in-Some.is) (sym c.in_ok-read.ensures ∙ c.in-Ok.is)
    (led_so g.F.Files.does _ _ (λ calls (at, counts). inr (refused_breaks g.F.Files.does shown may failed stored folder sites c.in-Some.number (Start c.in-Ok.key) c.in_ok-done-in-Ok.done calls c.in_err-outcome-in-Ok.ensures.failed at)) c.in_ok-done-in-Ok.ensures.calls))

pub returns-in_ok-outcome-in-Ok-clause-calls : goal.returns-in_ok-outcome-in-Ok-clause-calls
returns-in_ok-outcome-in-Ok-clause-calls g c =
    start_done g.F.Files.does g.K.SiteKeeper.shown g.K.SiteKeeper.may g.K.SiteKeeper.failed g.K.SiteKeeper.stored c.args.folder.now c.args.site.now c.args.item.now _ _ _ c.in_ok-sites.sites c.in-Some.number c.in-Ok.key c.in_ok-done-in-Ok.done c.in_ok-done-in-Ok.inside _
    c.in_ok-sites.ensures.read (sym c.find.ensures ∙ c.in-Some.is) (sym c.in_ok-read.ensures ∙ c.in-Ok.is) c.in_ok-done-in-Ok.ensures.calls refl c.in_ok-outcome-in-Ok.ensures.told c.noted_start-notes.ensures

pub returns-in_err-outcome-in-Err-clause-failed : goal.returns-in_err-outcome-in-Err-clause-failed
returns-in_err-outcome-in-Err-clause-failed g c =
    handed_on c.from_residual-in_err-outcome-in-Err.result _ _ c.from_residual-in_err-outcome-in-Err.ensures.1
    (led_so g.F.Files.does _ _ (λ calls vain. inl vain) (list_out g.F.Files.does g.K.SiteKeeper.shown c.args.folder.now _ _ c.in_ok-sites.sites c.in_ok-sites.ensures.read))

pub returns-in_ok-outcome-in-Err-clause-calls : goal.returns-in_ok-outcome-in-Err-clause-calls
returns-in_ok-outcome-in-Err-clause-calls g c =
    start_unspelled g.F.Files.does g.K.SiteKeeper.shown g.K.SiteKeeper.may g.K.SiteKeeper.failed g.K.SiteKeeper.stored c.args.folder.now c.args.site.now c.args.item.now _ _ c.in_ok-sites.sites c.in-Some.number c.in-Err.fault c.in_ok-outcome-in-Err.outcome _
    c.in_ok-sites.ensures.read (sym c.find.ensures ∙ c.in-Some.is) (sym c.in_ok-read.ensures ∙ c.in-Err.is) c.plain-in-Err.ensures.sites c.plain-in-Err.ensures.outcome c.in_ok-outcome-in-Err.ensures c.plain-in-Err.ensures.notes
