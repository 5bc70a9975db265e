use Rattle.std.proofs.Common.{refl, rules}
use Rattle.site_tables.proofs.Whole.{both_then, then_fails, whole}
use Rattle.site_tables.proofs.all_tables.fill.Goals as goal

pub returns-clause-wrote : goal.returns-clause-wrote
returns-clause-wrote g c =
    let events = both_then _ _ _ refl c.in_ok-fill_sites.was c.fill_sites.ensures.wrote c.fill_events.ensures.wrote in
    let messages = both_then _ _ _ refl c.in_ok-fill_events.was events c.fill_messages.ensures.wrote in
    let recalls = both_then _ _ _ refl c.in_ok-fill_messages.was messages c.fill_recalls.ensures.wrote in
    whole (both_then _ _ _ refl c.in_ok-fill_recalls.was recalls c.fill_packs.ensures.wrote)

pub returns-in_err-fill_events-clause-wrote : goal.returns-in_err-fill_events-clause-wrote
returns-in_err-fill_events-clause-wrote g c = then_fails c.in_ok-fill_sites.was c.in_err-fill_events.was (search rules) c.fill_sites.ensures.wrote c.fill_events.ensures.wrote

pub returns-in_err-fill_messages-clause-wrote : goal.returns-in_err-fill_messages-clause-wrote
returns-in_err-fill_messages-clause-wrote g c =
    let events = both_then _ _ _ refl c.in_ok-fill_sites.was c.fill_sites.ensures.wrote c.fill_events.ensures.wrote in
    then_fails c.in_ok-fill_events.was c.in_err-fill_messages.was (search rules) events c.fill_messages.ensures.wrote

pub returns-in_err-fill_recalls-clause-wrote : goal.returns-in_err-fill_recalls-clause-wrote
returns-in_err-fill_recalls-clause-wrote g c =
    let events = both_then _ _ _ refl c.in_ok-fill_sites.was c.fill_sites.ensures.wrote c.fill_events.ensures.wrote in
    let messages = both_then _ _ _ refl c.in_ok-fill_events.was events c.fill_messages.ensures.wrote in
    then_fails c.in_ok-fill_messages.was c.in_err-fill_recalls.was (search rules) messages c.fill_recalls.ensures.wrote
