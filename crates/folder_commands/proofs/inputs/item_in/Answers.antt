use Rattle.site_folders.proofs.CallsInTurn.{ok_so}
use Rattle.folder_commands.proofs.InputLemmas.{reads_text}
use Rattle.folder_commands.proofs.inputs.item_in.Goals as goal

pub returns-in-Ok : goal.returns-in-Ok
returns-in-Ok c =
    let is = rw c.in-Ok.is at c.from_utf8.ensures.cases in
    ok_so c.read_item.result (λ read same. reads_text c.args.spelling c.args.text.now c.in-Ok.text read is.0 is.1 same) c.read_item.ensures
