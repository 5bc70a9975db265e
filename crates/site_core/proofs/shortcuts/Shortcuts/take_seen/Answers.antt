use Rattle.std.proofs.Common.{refl}
use Rattle.site_core.proofs.Closed.{taken_out, taken_out_held, nothing_seen}
use Rattle.site_core.proofs.shortcuts.Shortcuts.take_seen.Goals as goal

pub returns-in-Some : goal.returns-in-Some
returns-in-Some c s q are = (
  taken_out s q c.args.recall c.args.self.now (record { is_closed = c.args.self.now.is_closed; seen = c.take.new.map }) refl are c.take.ensures.left,
  taken_out_held s q c.args.recall c.args.self.now c.in-Some.seen are c.in-Some.ensures.value,
)

pub returns-in-None : goal.returns-in-None
returns-in-None c s q are = (
  taken_out s q c.args.recall c.args.self.now (record { is_closed = c.args.self.now.is_closed; seen = c.take.new.map }) refl are c.take.ensures.left,
  nothing_seen s q c.args.recall c.new.result c.new.ensures,
)
