use Rattle.event_json.proofs.Listed.{read_of, refused_of}
use Rattle.event_json.proofs.laws.documents_are_lists.Goals as goal

pub returns : goal.returns
returns c = λ sites d. (read_of sites d, refused_of sites d)
