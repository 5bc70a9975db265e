use Rattle.folder_commands.proofs.CopyLaws.{holds_the_same}
use Rattle.folder_commands.proofs.laws.a_copy_holds_the_same.Goals as goal

pub returns : goal.returns
returns g c = holds_the_same g.K.SiteKeeper.shown g.K.SiteKeeper.stored
