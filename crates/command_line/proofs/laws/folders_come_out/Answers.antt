use Rattle.command_line.proofs.LivedFolders.{folders_come_out}
use Rattle.command_line.proofs.laws.folders_come_out.Goals as goal

pub returns : goal.returns
returns g c sites = folders_come_out g.K.SiteKeeper.shown g.K.SiteKeeper.may sites
