-- Sets of items. A finite set is a finite map with nothing at its keys, and its words here are the map's, since those
-- of std's `FinSet` don't say which list of keys a set is.
use Rattle.std.specs.Prelude.{ℕ, Bool, List, map}
use Rattle.std.specs.Ordering.{nat_cmp}
use Rattle.std.specs.BTreeSet.{BTreeSet}
use Rattle.std.specs.Cmp.Lexicographic.{slice_cmp}
use Rattle.std.specs.declared.cmp.Ordering.{Ordering}
use Rattle.std.specs.Coded.{Coded, coded_ℕ, coded_list}
use Rattle.std.specs.FinMap as finite
use Rattle.std.specs.FinSet.{FinSet, code}

-- items by the bytes of their keys
abbrev pub item_cmp : List ℕ → List ℕ → Ordering
item_cmp i j = slice_cmp nat_cmp i j

abbrev pub Items : Type 0
Items = FinSet item_cmp

abbrev pub coded_items : Coded Items
coded_items = code (coded_list coded_ℕ)

abbrev pub empty : Items
empty = finite.empty

abbrev pub contains : Items → List ℕ → Bool
contains s i = finite.contains_key s i

abbrev pub insert : Items → List ℕ → Items
insert s i = finite.insert s i tt

abbrev pub remove : Items → List ℕ → Items
remove s i = finite.remove s i

abbrev pub len : Items → ℕ
len s = finite.len s

-- in order
abbrev pub items : Items → List (List ℕ)
items s = finite.keys s

-- the set that a `BTreeSet` of items is
abbrev pub as_items : BTreeSet (List ℕ) → Items
as_items s = finite.from_sorted (map (λ k. (k, tt)) s.keys)
