use Rattle.std.proofs.Common.{refl}
use Rattle.site_tables.specs.Values.{event_values}
use Rattle.site_tables.proofs.Tables.{bound_text, pushed}
use Rattle.site_tables.proofs.event_table.EventRowTableRow.push_values.Goals as goal

pub returns : goal.returns
returns c = pushed c.extend_from_slice.result c.args.values.now.items _ c.extend_from_slice.new.self.items (event_values c.args.self.now) c.extend_from_slice.ensures.items (rw (c.params-to_sql.ensures, c.params-to_sql-2.ensures, c.params-to_sql-3.ensures, c.params-to_sql-4.ensures, c.params-to_sql-5.ensures, c.params-to_sql-6.ensures, bound_text c.args.self.now.id, bound_text c.args.self.now.make_id) refl)
