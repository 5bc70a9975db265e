use Rattle.std.proofs.Common.{arith}
use Rattle.trace_core.proofs.SentSteps.{nothing_there}
use Rattle.trace_core.proofs.sendings.forget_site.Goals as goal

pub returns-else-item-len : goal.returns-else-item-len
returns-else-item-len c = nothing_there c.args.sites.now.items c.args.item c.args.site (omega (arith, c.if-item-len.false, c.len.ensures, c.args.sites.now.ok))
