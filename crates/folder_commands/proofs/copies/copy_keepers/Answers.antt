use Rattle.std.proofs.Common.{[], ap, refl, sym, subst, ◌∙◌, inr}
use Rattle.std.specs.Prelude.{IfErr, OnOk}
use Rattle.site_recovery.specs.Checking.{records_at}
use Rattle.site_folders.specs.FileCalls.{Calls, Led}
use Rattle.site_folders.proofs.CallsInTurn.{are_shown, handed_on, shown_once, shown_open}
use Rattle.folder_commands.specs.Copying.{CopiesFirst, makes_copies}
use Rattle.folder_commands.proofs.CopyLemmas.{first_copied}
use Rattle.folder_commands.proofs.copies.copy_keepers.Goals as goal

pub open_records-requires : goal.open_records-requires
open_records-requires g c = shown_open g.K.SiteKeeper.shown c.args.keepers.now c.requires.0 c.requires.1

pub returns-clause-made : goal.returns-clause-made
returns-clause-made g c = λ rs shows.
    let shown = g.K.SiteKeeper.shown in
    let keepers = c.args.keepers.now in
    let records = records_at c.in_ok-records.records.items in
    let same = shown_once shown keepers rs records shows (are_shown shown keepers records c.in_ok-records.ensures) in
    subst (λ xs. OnOk c.make_copies.result (Calls g.F.Files.does c.args.files.now (makes_copies c.args.to.now xs) c.make_copies.new.files)) (ap records_at c.as_slice.ensures.value ∙ sym same) c.make_copies.ensures.made

pub returns-clause-failed : goal.returns-clause-failed
returns-clause-failed g c = λ rs shows.
    let shown = g.K.SiteKeeper.shown in
    let keepers = c.args.keepers.now in
    let records = records_at c.in_ok-records.records.items in
    let same = shown_once shown keepers rs records shows (are_shown shown keepers records c.in_ok-records.ensures) in
    subst (λ xs. IfErr c.make_copies.result (λ fault. Led g.F.Files.does c.args.files.now c.make_copies.new.files (CopiesFirst c.args.to.now xs fault))) (ap records_at c.as_slice.ensures.value ∙ sym same) c.make_copies.ensures.failed

pub returns-in_err-records-clause-failed : goal.returns-in_err-records-clause-failed
returns-in_err-records-clause-failed g c = λ rs shows.
    handed_on c.from_residual.result _ _ c.from_residual.ensures.1
    (first_copied g.F.Files.does c.args.to.now rs [] rs _ _ _ _ [] refl refl (inr (refl, refl)) refl)
