use Rattle.folder_commands.proofs.NoteLaws.{only_stopped}
use Rattle.folder_commands.proofs.laws.only_sites_that_stopped_are_named.Goals as goal

pub returns : goal.returns
returns c = only_stopped
