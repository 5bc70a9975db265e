use Rattle.std.proofs.Common.{Ok, rules}
use Rattle.frame_lines.proofs.FrameLemmas.{answered}
use Rattle.frame_lines.proofs.reading.read_line.Goals as goal

pub returns-clause-exact : goal.returns-clause-exact
returns-clause-exact c = answered c.args.sites.now c.args.chain.now c.args.line.now c.len-names.ensures.in_order (Ok c.in-Some-2.frame) (search rules)
