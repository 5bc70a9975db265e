use Rattle.site_tables.proofs.Refusals.{refusals_are_named}
use Rattle.site_tables.proofs.laws.refusals_are_named.Goals as goal

pub returns : goal.returns
returns c = refusals_are_named
