use Rattle.document_convert.proofs.PlacesFound.{addresses_stay, others_have_none, places_are_found, places_are_listed}
use Rattle.document_convert.proofs.laws.places_are_listed.Goals as goal

pub returns-clause-listed : goal.returns-clause-listed
returns-clause-listed c = places_are_listed

pub returns-clause-addresses : goal.returns-clause-addresses
returns-clause-addresses c = addresses_stay

pub returns-clause-others : goal.returns-clause-others
returns-clause-others c = others_have_none

pub returns-clause-found : goal.returns-clause-found
returns-clause-found c = places_are_found
