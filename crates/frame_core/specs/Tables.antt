-- A `BTreeMap` as the finite map that it is.
use Rattle.std.specs.Prelude.{ℕ, ◌<◌, Option, Some, None, IsSome}
use Rattle.std.specs.BTreeMap.{BTreeMap}
use Rattle.std.specs.Ordering.{nat_cmp}
use Rattle.std.specs.declared.cmp.Ordering.{Ordering}
use Rattle.std.specs.FinMap.{FinMap, from_sorted, get, insert, remove}

-- what is kept under each key
abbrev pub as_map : {K X : Type 0} (R : K → K → Ordering) → BTreeMap K X → FinMap R X
as_map R m = from_sorted {R = R} m.entries

-- the map with a key set back to the value that it had, or without the key where it had none
abbrev pub set_back : {K X : Type 0} {R : K → K → Ordering} → FinMap R X → K → Option X → FinMap R X
set_back m k None = remove m k
set_back m k (Some v) = insert m k v

-- what is kept under numbers is kept below this one
abbrev pub AreBelow : {X : Type 0} → FinMap nat_cmp X → ℕ → Type 0
AreBelow m n = (k : ℕ) → IsSome (get m k) → k < n
