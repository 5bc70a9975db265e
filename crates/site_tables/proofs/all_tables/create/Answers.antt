use Rattle.site_tables.proofs.Created.{creates}
use Rattle.site_tables.proofs.MadeTables.{made_next, made_one}
use Rattle.site_tables.proofs.Steps.{ran}
use Rattle.site_tables.proofs.all_tables.create.Goals as goal

pub returns-clause-made : goal.returns-clause-made
returns-clause-made g c = let it = c.execute.ensures in made_one (made_next g.T.TableRow.named) (creates c.create_text.ensures (ran g.S.Store it.ended it.runs it.survives))
