use Rattle.frame_core.specs.Orders.{recall_total, recall_exact}
use Rattle.site_core.specs.Records.{IsMessageAmong, IsRecallAmong}
use Rattle.site_core.proofs.Entries.{each_found}
use Rattle.site_core.proofs.restoring.are_parents_among.Goals as goal

pub returns : goal.returns
returns c = each_found recall_total recall_exact c.args.diffusion.now.parents c.parents.result.now.entries c.parents.ensures.entries (λ r m. IsRecallAmong c.args.among.now.sites r × IsMessageAmong c.args.among.now.sites m) c.each_entry.result c.each_entry.ensures
