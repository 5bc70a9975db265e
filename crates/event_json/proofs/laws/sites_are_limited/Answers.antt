use Rattle.std.proofs.Common.{refl}
use Rattle.event_json.proofs.SiteLimits.{names_are_these, sites_limited}
use Rattle.event_json.proofs.laws.sites_are_limited.Goals as goal

pub returns : goal.returns
returns c = record { counted = refl; names = names_are_these; sites = sites_limited }
