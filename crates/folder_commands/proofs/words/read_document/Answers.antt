use Rattle.std.proofs.Common.{[], ◌∷◌, refl}
use Rattle.site_folders.specs.FileCalls.{ReadFile}
use Rattle.site_folders.proofs.CallsInTurn.{handed_on}
use Rattle.folder_commands.proofs.WordLemmas.{read_in_vain, unread_file}
use Rattle.folder_commands.proofs.words.read_document.Goals as goal

pub returns-in_err-bytes-clause-failed : goal.returns-in_err-bytes-clause-failed
returns-in_err-bytes-clause-failed g c =
    handed_on c.from_residual.result _ _ c.from_residual.ensures.1 (unread_file g.F.Files.does c.args.path.now _ _ _ c.in_err-bytes.ensures.failed)

pub returns-in_err-one_input-clause-failed : goal.returns-in_err-one_input-clause-failed
returns-in_err-one_input-clause-failed g c =
    handed_on c.from_residual-in_err-one_input.result _ _ c.from_residual-in_err-one_input.ensures.1 (read_in_vain g.F.Files.does c.args.path.now _ _ c.in_ok-bytes.bytes.items c.in_ok-bytes.ensures.read)

pub returns-clause-read : goal.returns-clause-read
returns-clause-read g c = record {
  calls = ReadFile c.args.path.now c.in_ok-bytes.bytes.items ∷ [];
  are = (c.in_ok-bytes.bytes.items, c.in_ok-one_input.ensures, refl);
  led = (c.read.new.self, c.in_ok-bytes.ensures.read, refl);
}
