use Rattle.folder_commands.proofs.NoteLaws.{each_told}
use Rattle.folder_commands.proofs.laws.each_stop_is_told.Goals as goal

pub returns : goal.returns
returns c = each_told
