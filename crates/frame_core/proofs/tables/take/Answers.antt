use Rattle.std.proofs.Common.{◌∙◌}
use Rattle.frame_core.proofs.Maps.{map_found, map_removed}
use Rattle.frame_core.proofs.tables.take.Goals as goal

pub returns-clause-value : goal.returns-clause-value
returns-clause-value g c = c.remove.ensures.value ∙ map_found g.met.K.Ord.total c.args.map.now c.args.key c.len-length.ensures.ordered

pub returns-clause-left : goal.returns-clause-left
returns-clause-left g c = map_removed g.met.K.Ord.total g.met.K.Key.exact c.args.map.now c.remove.new.self c.args.key c.len-length.ensures.ordered c.remove.ensures.entries
