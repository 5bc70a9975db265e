-- Lists of all that there is of a kind.
use Rattle.std.specs.Prelude.{◌↔◌, List, Contains}
use Rattle.std.specs.List.Sorted.{IsStrictlySortedBy}
use Rattle.std.specs.declared.cmp.Ordering.{Ordering}

-- the list has just what `Is` holds of, ascending and each once
pub record AreAllBy {X : Type 0} (cmp : X → X → Ordering) (Is : X → Type 0) (xs : List X) : Type 0 where
  pub ascending : IsStrictlySortedBy cmp xs
  pub exact : (x : X) → Contains xs x ↔ Is x
