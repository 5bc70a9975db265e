use Rattle.frame_core.specs.Orders.{recall_total, recall_exact}
use Rattle.site_core.specs.Records.{IsRecallAmong}
use Rattle.site_core.proofs.Entries.{each_key_found}
use Rattle.site_core.proofs.restoring.is_quarantine_among.Goals as goal

pub returns-clause-among : goal.returns-clause-among
returns-clause-among c = each_key_found recall_total recall_exact c.args.quarantine.now c.by_recall.result.now.entries c.by_recall.ensures.entries (IsRecallAmong c.args.among.now.sites) c.each_entry.result c.each_entry.ensures
