use Rattle.std.specs.Ordering.{nat_cmp}
use Rattle.std.specs.FinMap.{nat_cmp-IsAntisymmetric}
use Rattle.std.proofs.lemmas.Cmp.{nat_cmp_total}
use Rattle.site_rows.specs.Texts.{IsItemText}
use Rattle.site_core.specs.Records.{IsRowAmong}
use Rattle.site_rows.specs.BadRows.{IsOutboxEntry}
use Rattle.site_rows.specs.RecordRows.{outbox_row}
use Rattle.site_rows.proofs.RowsOfMaps.{rows_told, each_told}
use Rattle.site_rows.proofs.reading_recalls.outbox_of.Goals as goal

pub returns-clause-rows : goal.returns-clause-rows
returns-clause-rows c = rows_told (IsOutboxEntry c.args.sites) nat_cmp c.args.rows.now outbox_row (λ _ _ _ is. is.same) c.entries_of.result c.entries_of.ensures.read c.entries_of.ensures.ascending

pub returns-clause-among : goal.returns-clause-among
returns-clause-among c = each_told (IsOutboxEntry c.args.sites) nat_cmp c.args.rows.now nat_cmp_total nat_cmp-IsAntisymmetric (λ n row. IsRowAmong c.args.sites n row × IsItemText row.item) (λ _ _ _ is. (is.among, is.item)) c.entries_of.result c.entries_of.ensures.read c.entries_of.ensures.ascending
