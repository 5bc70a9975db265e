use Rattle.std.specs.Cmp.{nat_cmp_total}
use Rattle.std.specs.FinMap.{nat_cmp-IsAntisymmetric}
use Rattle.site_core.specs.Records.{IsRowAmong}
use Rattle.site_core.proofs.Entries.{each_found}
use Rattle.site_core.proofs.restoring.are_rows_among.Goals as goal

pub returns : goal.returns
returns c = each_found nat_cmp_total nat_cmp-IsAntisymmetric c.args.diffusion.now.outbox c.outbox.result.now.entries c.outbox.ensures.entries (λ number row. IsRowAmong c.args.among.now.sites number row) c.each_entry.result c.each_entry.ensures
