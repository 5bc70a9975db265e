use Rattle.frame_core.specs.Orders.{message_total, message_exact}
use Rattle.site_core.specs.Records.{IsMessageAmong, IsRecallAmong}
use Rattle.site_core.proofs.Entries.{each_found}
use Rattle.site_core.proofs.restoring.are_seen_among.Goals as goal

pub returns : goal.returns
returns c = each_found message_total message_exact c.args.diffusion.now.seen c.seen.result.now.entries c.seen.ensures.entries (λ m r. IsMessageAmong c.args.among.now.sites m × IsRecallAmong c.args.among.now.sites r) c.each_entry.result c.each_entry.ensures
