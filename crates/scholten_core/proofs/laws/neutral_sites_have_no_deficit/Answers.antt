use Rattle.scholten_core.proofs.Owners.{begins_owners, takes_owners, clears_owners, neutral_deficit}
use Rattle.scholten_core.proofs.laws.neutral_sites_have_no_deficit.Goals as goal

pub returns : goal.returns
returns c = record { begins = begins_owners; takes = takes_owners; clears = clears_owners; none = neutral_deficit }
