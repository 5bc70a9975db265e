use Rattle.std.proofs.Common.{◌∙◌, sym}
use Rattle.frame_core.proofs.Ascending.{inserted}
use Rattle.frame_core.proofs.Maps.{map_found, map_inserted}
use Rattle.frame_core.proofs.tables.put.Goals as goal

pub returns-in-Ok-clause-old : goal.returns-in-Ok-clause-old
returns-in-Ok-clause-old g c = c.in-Ok.ensures.old ∙ map_found g.met.K.Ord.total c.args.map.now c.args.key c.insert.ensures.was_ordered

pub returns-in-Ok-clause-ok : goal.returns-in-Ok-clause-ok
returns-in-Ok-clause-ok g c = map_inserted g.met.K.Ord.total c.args.map.now c.insert.new.self c.args.key c.args.value c.insert.ensures.was_ordered c.in-Ok.ensures.entries

pub returns-in-Ok-clause-entries : goal.returns-in-Ok-clause-entries
returns-in-Ok-clause-entries g c = c.in-Ok.ensures.entries ∙ inserted g.K.Ord.cmp c.args.key c.args.value c.args.map.now.entries

pub returns-clause-only_new : goal.returns-clause-only_new
returns-clause-only_new g c = sym (map_found g.met.K.Ord.total c.args.map.now c.args.key c.insert.ensures.was_ordered) ∙ c.in-Err.ensures.absent
