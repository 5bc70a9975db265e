-- Items are in a total order, in which only equal ones tie.
use Rattle.std.specs.Cmp.{IsTotalOrder}
use Rattle.std.specs.Cmp.Lexicographic.{nat_list_cmp_total}
use Rattle.std.specs.FinMap.{IsAntisymmetric, nat_cmp-IsAntisymmetric, slice_cmp-IsAntisymmetric}
use Rattle.site_core.specs.ItemSets.{item_cmp}

pub item_total : IsTotalOrder item_cmp
item_total = nat_list_cmp_total

pub item_exact : IsAntisymmetric item_cmp
item_exact = slice_cmp-IsAntisymmetric nat_cmp-IsAntisymmetric
