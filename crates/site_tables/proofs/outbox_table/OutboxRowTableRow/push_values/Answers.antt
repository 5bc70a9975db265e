use Rattle.std.proofs.Common.{refl}
use Rattle.site_tables.specs.Values.{outbox_values}
use Rattle.site_tables.proofs.Tables.{pushed}
use Rattle.site_tables.proofs.outbox_table.OutboxRowTableRow.push_values.Goals as goal

pub returns : goal.returns
returns c = pushed c.extend_from_slice.result c.args.values.now.items _ c.extend_from_slice.new.self.items (outbox_values c.args.self.now) c.extend_from_slice.ensures.items (rw (c.params-to_sql.ensures, c.params-to_sql-2.ensures, c.params-to_sql-3.ensures, c.params-to_sql-4.ensures, c.params-to_sql-5.ensures) refl)
