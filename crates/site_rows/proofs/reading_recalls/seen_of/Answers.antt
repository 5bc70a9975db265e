use Rattle.frame_core.specs.Identifiers.{message_cmp}
use Rattle.frame_core.specs.Orders.{message_total, message_exact}
use Rattle.site_core.specs.Records.{IsMessageAmong, IsRecallAmong}
use Rattle.site_rows.specs.BadRows.{IsSeenEntry}
use Rattle.site_rows.specs.RecordRows.{seen_row}
use Rattle.site_rows.proofs.RowsOfMaps.{rows_told, each_told}
use Rattle.site_rows.proofs.reading_recalls.seen_of.Goals as goal

pub returns-clause-rows : goal.returns-clause-rows
returns-clause-rows c = rows_told (IsSeenEntry c.args.sites) message_cmp c.args.rows.now seen_row (λ _ _ _ is. is.same) c.entries_of.result c.entries_of.ensures.read c.entries_of.ensures.ascending

pub returns-clause-among : goal.returns-clause-among
returns-clause-among c = each_told (IsSeenEntry c.args.sites) message_cmp c.args.rows.now message_total message_exact (λ m r. IsMessageAmong c.args.sites m × IsRecallAmong c.args.sites r) (λ _ _ _ is. (is.message, is.recall)) c.entries_of.result c.entries_of.ensures.read c.entries_of.ensures.ascending
