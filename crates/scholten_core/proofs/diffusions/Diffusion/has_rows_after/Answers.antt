use Rattle.std.proofs.Common.{sym}
use Rattle.frame_core.proofs.Deficits.{numbered_has_rows}
use Rattle.scholten_core.proofs.diffusions.Diffusion.has_rows_after.Goals as goal

pub returns-in_default : goal.returns-in_default
returns-in_default c = sym (numbered_has_rows c.args.self.now.outbox c.args.self.now.next_message c.args.recall c.args.out.now c.in_default.len_at_least)
