use Rattle.world_core.proofs.FreshSites.{fresh_sites_make_a_world, memory_alone}
use Rattle.world_core.proofs.laws.records_make_a_world.Goals as goal

pub returns : goal.returns
returns c = record { fresh = fresh_sites_make_a_world; memory = memory_alone }
