use Rattle.folder_commands.proofs.PlaceLaws.{few_named}
use Rattle.folder_commands.proofs.laws.few_places_are_named.Goals as goal

pub returns : goal.returns
returns c = few_named
