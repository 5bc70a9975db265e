use Rattle.std.proofs.Common.{refl}
use Rattle.site_rows.specs.declared.tables.Table.TheVariants.{Parent, Recall}
use Rattle.site_tables.specs.Filled.{with_rows}
use Rattle.site_tables.proofs.Whole.{in_all, both_then}
use Rattle.site_tables.proofs.all_tables.fill_recalls.Goals as goal

pub returns-clause-wrote : goal.returns-clause-wrote
returns-clause-wrote g c =
    let puts = with_rows c.args.rows.now in
    both_then _ _ _ refl c.in_ok-insert_each.was (in_all Parent puts (rw c.as_slice.ensures at c.insert_each.ensures.wrote)) (in_all Recall puts (rw c.as_slice-2.ensures at c.insert_each-2.ensures.wrote))
