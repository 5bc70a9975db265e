use Rattle.site_tables.proofs.MadeTables.{made_then}
use Rattle.site_tables.proofs.all_tables.create_tables.Goals as goal

pub returns-clause-made : goal.returns-clause-made
returns-clause-made g c =
    let events = made_then c.in_ok-create_sites.was c.create_sites.ensures.made c.create_events.ensures.made in
    let messages = made_then c.in_ok-create_events.was events c.create_messages.ensures.made in
    let recalls = made_then c.in_ok-create_messages.was messages c.create_recalls.ensures.made in
    made_then c.in_ok-create_recalls.was recalls c.create_packs.ensures.made
