use Rattle.std.specs.Cmp.{nat_cmp_total}
use Rattle.std.specs.FinMap.{nat_cmp-IsAntisymmetric}
use Rattle.site_core.specs.Records.{IsNumber}
use Rattle.site_core.proofs.Entries.{each_key_found}
use Rattle.site_core.proofs.restoring.are_own_among.Goals as goal

pub returns : goal.returns
returns c = each_key_found nat_cmp_total nat_cmp-IsAntisymmetric c.args.diffusion.now.own c.own_recalls.result.now.entries c.own_recalls.ensures.entries IsNumber c.each_entry.result c.each_entry.ensures
