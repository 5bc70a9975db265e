use Rattle.site_tables.proofs.MadeTables.{made_then}
use Rattle.site_tables.proofs.all_tables.create_recalls.Goals as goal

pub returns-clause-made : goal.returns-clause-made
returns-clause-made g c = made_then c.in_ok-create.was c.create.ensures.made c.create-2.ensures.made
