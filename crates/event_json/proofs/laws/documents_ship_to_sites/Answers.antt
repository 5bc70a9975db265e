use Rattle.event_json.proofs.Destinations.{document_ships, text_ships}
use Rattle.event_json.proofs.laws.documents_ship_to_sites.Goals as goal

pub returns : goal.returns
returns c = (document_ships, text_ships)
