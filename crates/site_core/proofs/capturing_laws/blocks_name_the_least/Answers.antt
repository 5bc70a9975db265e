use Rattle.site_core.proofs.FirstBlocks.{blocks_name_the_least, shipments_name_the_lesser}
use Rattle.site_core.proofs.capturing_laws.blocks_name_the_least.Goals as goal

pub returns : goal.returns
returns c = record { least = blocks_name_the_least; shipments = shipments_name_the_lesser }
