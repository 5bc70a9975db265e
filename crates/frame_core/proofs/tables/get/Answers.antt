use Rattle.std.proofs.Common.{◌∙◌}
use Rattle.frame_core.proofs.Maps.{map_found, lent_value}
use Rattle.frame_core.proofs.tables.get.Goals as goal

pub returns : goal.returns
returns g c = lent_value c.get.result ∙ c.get.ensures.value ∙ map_found g.met.K.Ord.total c.args.map.now c.args.key c.len-length.ensures.ordered
