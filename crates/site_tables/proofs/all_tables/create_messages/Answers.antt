use Rattle.site_tables.proofs.MadeTables.{made_then}
use Rattle.site_tables.proofs.all_tables.create_messages.Goals as goal

pub returns-clause-made : goal.returns-clause-made
returns-clause-made g c =
    let outbox = made_then c.in_ok-create.was c.create.ensures.made c.create-2.ensures.made in
    made_then c.in_ok-create-2.was outbox c.create-3.ensures.made
