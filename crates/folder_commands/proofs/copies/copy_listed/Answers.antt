use Rattle.std.proofs.Common.{◌≡◌, ◌<◌, List, [], ◌++◌, length, eqb-true, false-eqb, refl, sym, ap, ◌∙◌, arith}
use Rattle.std.proofs.lemmas.List.{nil_from_length}
use Rattle.recall_outcomes.specs.declared.outcomes.CommandRefusal.{CommandRefusal}
use Rattle.site_folders.proofs.CallsInTurn.{handed_on, led_so}
use Rattle.folder_commands.specs.Making.{looks_from}
use Rattle.folder_commands.proofs.CopyLemmas.{all_copied, behind_read, copying_failed, listed_copies, refuses_copy}
use Rattle.folder_commands.proofs.MakingLemmas.{looks_ask, vain_then}
use Rattle.folder_commands.proofs.copies.copy_listed.Goals as goal

pub returns-in_ok-copy_folder-clause-calls : goal.returns-in_ok-copy_folder-clause-calls
returns-in_ok-copy_folder-clause-calls g c =
    let does = g.F.Files.does in
    let shown = g.K.SiteKeeper.shown in
    let stored = g.K.SiteKeeper.stored in
    let folder = c.args.folder.now in
    let to = c.args.to.now in
    let sites = c.args.sites.now in
    let text = c.args.text.now in
    let (found, looked, number, exist, named, is) = c.in_ok-push_existing.ensures.looked in
    let refused = c.push_list.new.refusals.items in
    let zero = eqb-true _ 0 (sym c.is_empty.ensures ∙ c.if-is_empty.true) in
    let none : length refused ≡ 0 = omega (arith, zero) in
    let before = is ∙ ap (λ (whys : List CommandRefusal). whys ++ exist) c.new-refusals.ensures.items in
    listed_copies does shown stored folder to sites text c.args.files.now c.push_existing.new.files c.push_list.new.files c.copy_folder.new.files _ found exist c.push_existing.new.refusals.items refused number named looked before c.in_ok-push_list.ensures.looked
    (led_so does _ _ (λ calls copied. all_copied shown stored folder to refused sites text _ calls none refl copied) c.in_ok-copy_folder.ensures.copied)

pub returns-else-is_empty-clause-calls : goal.returns-else-is_empty-clause-calls
returns-else-is_empty-clause-calls g c =
    let does = g.F.Files.does in
    let shown = g.K.SiteKeeper.shown in
    let stored = g.K.SiteKeeper.stored in
    let folder = c.args.folder.now in
    let to = c.args.to.now in
    let sites = c.args.sites.now in
    let text = c.args.text.now in
    let (found, looked, number, exist, named, is) = c.in_ok-push_existing.ensures.looked in
    let refused = c.push_list.new.refusals.items in
    let before = is ∙ ap (λ (whys : List CommandRefusal). whys ++ exist) c.new-refusals.ensures.items in
    let isnt = false-eqb _ 0 (sym c.if-is_empty.false ∙ c.is_empty.ensures) in
    let some : 0 < length refused = omega (arith, isnt) in
    listed_copies does shown stored folder to sites text c.args.files.now c.push_existing.new.files c.push_list.new.files c.push_list.new.files _ found exist c.push_existing.new.refusals.items refused number named looked before c.in_ok-push_list.ensures.looked
    (record { calls = []; are = refuses_copy shown stored folder to refused sites text _ some refl; led = refl })

pub returns-in_err-push_existing-clause-failed : goal.returns-in_err-push_existing-clause-failed
returns-in_err-push_existing-clause-failed g c =
    let folder = c.args.folder.now in
    handed_on c.from_residual.result _ _ c.from_residual.ensures.1
    (led_so g.F.Files.does _ _ (behind_read g.F.Files.does g.K.SiteKeeper.shown g.K.SiteKeeper.stored folder c.args.to.now c.args.sites.now _) (c.in_err-push_existing.ensures.failed folder))

pub returns-in_err-push_list-clause-failed : goal.returns-in_err-push_list-clause-failed
returns-in_err-push_list-clause-failed g c =
    let does = g.F.Files.does in
    let shown = g.K.SiteKeeper.shown in
    let folder = c.args.folder.now in
    let to = c.args.to.now in
    let sites = c.args.sites.now in
    let (found, looked, number, exist, named, is) = c.in_ok-push_existing.ensures.looked in
    handed_on c.from_residual-in_err-push_list.result _ _ c.from_residual-in_err-push_list.ensures.1
    (led_so does _ _ (behind_read does shown g.K.SiteKeeper.stored folder to sites _)
    (vain_then does folder shown _ _ _ _ (looks_from to sites 0 found) (looks_ask to sites 0 found) looked (c.in_err-push_list.ensures.failed folder)))

pub returns-in_err-copy_folder-clause-failed : goal.returns-in_err-copy_folder-clause-failed
returns-in_err-copy_folder-clause-failed g c =
    let (found, looked, number, exist, named, is) = c.in_ok-push_existing.ensures.looked in
    let refused = c.push_list.new.refusals.items in
    let zero = eqb-true _ 0 (sym c.is_empty.ensures ∙ c.if-is_empty.true) in
    let before = is ∙ ap (λ (whys : List CommandRefusal). whys ++ exist) c.new-refusals.ensures.items in
    handed_on c.from_residual-in_err-copy_folder.result _ _ c.from_residual-in_err-copy_folder.ensures.1
    (copying_failed g.F.Files.does g.K.SiteKeeper.shown g.K.SiteKeeper.stored c.args.folder.now c.args.to.now c.args.sites.now _ _ _ _ found exist _ refused _ looked number named before (nil_from_length refused (omega (arith, zero)))
    c.in_ok-push_list.ensures.looked c.in_err-copy_folder.ensures.failed)
