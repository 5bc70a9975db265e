-- How much a value is, so that it can be bounded what copies of it take.
use Rattle.std.specs.Prelude.{ℕ, ◌+◌, ◌-◌, ◌||◌, Bool, false, nat_le, if◌then◌else◌, List, bytes_eq, length, Option, Some, None}
use Rattle.serde_json.specs.Find.{as_object}
use Rattle.serde_json.specs.Data.{Data, null, boolean, number, string, array, object, Items, no_items, item, Members, no_members, member}

-- one for each value in it, and the bytes of its texts and of its members' names
abbrev mutual
  pub weight : Data → ℕ
  weight null = 1
  weight (boolean b) = 1
  weight (number n) = 1
  weight (string s) = 1 + length s
  weight (array ds) = 1 + items_weight ds
  weight (object ms) = 1 + members_weight ms

  pub items_weight : Items → ℕ
  items_weight no_items = 0
  items_weight (item d ds) = weight d + items_weight ds

  pub members_weight : Members → ℕ
  members_weight no_members = 0
  members_weight (member k d ms) = length k + (weight d + members_weight ms)

-- what is left of some room behind so much, where it fits
abbrev pub room_behind : ℕ → ℕ → Option ℕ
room_behind room much = if nat_le much room then Some (room - much) else None

-- a member, its name and its value, unless it has one of two names
abbrev pub weight_of_other : List ℕ → List ℕ → List ℕ → Data → ℕ
weight_of_other one other k d = if bytes_eq k one || bytes_eq k other then 0 else length k + weight d

-- all but those of two names
abbrev pub weight_beside : List ℕ → List ℕ → Members → ℕ
weight_beside one other no_members = 0
weight_beside one other (member k d ms) = weight_of_other one other k d + weight_beside one other ms

-- what stands in an event beside the members of these names isn't more than so much
abbrev pub is_light_beside : ℕ → List ℕ → List ℕ → Option Members → Bool
is_light_beside room one other None = false
is_light_beside room one other (Some ms) = nat_le (weight_beside one other ms) room

unfoldable pub is_light : ℕ → List ℕ → List ℕ → Data → Bool
is_light room one other d = is_light_beside room one other (as_object d)
