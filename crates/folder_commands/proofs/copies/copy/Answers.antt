use Rattle.std.proofs.Common.{◌∷◌, refl, subst, inl}
use Rattle.site_folders.specs.FileCalls.{Led, ReadFile}
use Rattle.site_folders.specs.Paths.{list_path}
use Rattle.site_folders.proofs.CallsInTurn.{handed_on, led_so}
use Rattle.folder_commands.specs.Copying.{CopiesListed}
use Rattle.folder_commands.proofs.CopyLemmas.{copy_failed}
use Rattle.folder_commands.proofs.copies.copy.Goals as goal

pub returns-in_err-text-clause-failed : goal.returns-in_err-text-clause-failed
returns-in_err-text-clause-failed g c =
    handed_on c.from_residual.result _ _ c.from_residual.ensures.1
    (led_so g.F.Files.does _ _ (λ calls vain. inl vain) c.in_err-text.ensures.failed)

pub returns-in_err-outcome-clause-failed : goal.returns-in_err-outcome-clause-failed
returns-in_err-outcome-clause-failed g c =
    handed_on c.from_residual-in_err-outcome.result _ _ c.from_residual-in_err-outcome.ensures.1
    (copy_failed g.F.Files.does g.K.SiteKeeper.shown g.K.SiteKeeper.stored c.args.folder.now c.args.to.now _ _ _ _ _ _ c.in_ok-text.ensures.lists c.in_ok-text.ensures.read c.in_err-outcome.ensures.failed)

pub returns-clause-calls : goal.returns-clause-calls
returns-clause-calls g c =
    let folder = c.args.folder.now in
    let text = c.in_ok-text.text.items in
    let sites = c.in_ok-text.sites in
    let copied = subst (λ t. Led g.F.Files.does c.read_list.new.files c.copy_listed.new.files (CopiesListed g.K.SiteKeeper.shown g.K.SiteKeeper.stored folder c.args.to.now sites t c.in_ok-outcome.outcome)) c.as_slice.ensures.value c.in_ok-outcome.ensures.calls in
    record {
      calls = ReadFile (list_path folder) text ∷ copied.calls;
      are = record {
        text = text;
        lists = c.in_ok-text.ensures.lists;
        noted = refl;
        rest = copied.calls;
        copied = copied.are;
        calls_are = refl;
      };
      led = (c.read_list.new.files, c.in_ok-text.ensures.read, copied.led);
    }
