use Rattle.frame_core.specs.Identifiers.{recall_cmp}
use Rattle.frame_core.specs.Orders.{recall_total, recall_exact}
use Rattle.site_core.specs.Records.{IsMessageAmong, IsRecallAmong}
use Rattle.site_rows.specs.BadRows.{IsParentEntry}
use Rattle.site_rows.specs.RecordRows.{parent_row}
use Rattle.site_rows.proofs.RowsOfMaps.{rows_told, each_told}
use Rattle.site_rows.proofs.reading_recalls.parents_of.Goals as goal

pub returns-clause-rows : goal.returns-clause-rows
returns-clause-rows c = rows_told (IsParentEntry c.args.sites) recall_cmp c.args.rows.now parent_row (λ _ _ _ is. is.same) c.entries_of.result c.entries_of.ensures.read c.entries_of.ensures.ascending

pub returns-clause-among : goal.returns-clause-among
returns-clause-among c = each_told (IsParentEntry c.args.sites) recall_cmp c.args.rows.now recall_total recall_exact (λ r m. IsRecallAmong c.args.sites r × IsMessageAmong c.args.sites m) (λ _ _ _ is. (is.recall, is.message)) c.entries_of.result c.entries_of.ensures.read c.entries_of.ensures.ascending
