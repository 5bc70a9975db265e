use Rattle.std.proofs.Common.{subst, sym}
use Rattle.frame_core.specs.Places.{AreListedIn}
use Rattle.frame_core.proofs.Counting.{none_counted}
use Rattle.frame_core.proofs.Maps.{no_entries}
use Rattle.frame_core.proofs.counted_rows.CountedRows.new.Goals as goal

pub invariant_of-result : goal.invariant_of-result
invariant_of-result c =
    let none = no_entries c.new.result c.new.ensures.empty in (
      λ r. none_counted _ _ none (no_entries c.new-2.result c.new-2.ensures.empty) r,
      subst (λ m. AreListedIn m c.new-3.result) (sym none) c.new-3.ensures,
    )

pub returns : goal.returns
returns c = no_entries c.new.result c.new.ensures.empty
