use Rattle.std.specs.List.{AllZip}
use Rattle.std.specs.Vec.Iter.{into_iter_items}
use Rattle.site_tests.specs.Serving.{Settles}
use Rattle.site_tests.proofs.running.are_settled.Given as goal

-- the lists that are left are those of the desks that are left
abbrev pub invariant-loop-desk : goal.invariant-loop-desk
invariant-loop-desk l = AllZip Settles (into_iter_items l.desk-iterator) (into_iter_items l.lists)
