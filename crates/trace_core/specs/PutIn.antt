-- What events put into items, by the numbers of both.
use Rattle.std.specs.Prelude.{◌≡◌, ◌==◌, ℕ, cond, List, [], ◌∷◌, Option, Some, None, slice_get, option_map, option_and_then}
use Rattle.std.specs.BTreeMap.{get}
use Rattle.std.specs.List.{flat_map}
use Rattle.std.specs.Ordering.{nat_cmp}
use Rattle.event_json.specs.Events.{Content}
use Rattle.event_json.specs.declared.bodies.Action.TheVariants.{Add, Observe, Delete}
use Rattle.event_json.specs.declared.bodies.Body.{Body}
use Rattle.event_json.specs.declared.bodies.Body.TheVariants.{Note, Ship, Make, Pack}
use Rattle.trace_core.specs.declared.packed.Packed.{Packed}
use Rattle.trace_core.specs.Numbers.{number_in, numbered, numbers_of}
use Rattle.trace_core.specs.Places.{or_none}
use Rattle.trace_core.specs.PairTests.{put_into}

-- what is noted under a number, nothing where there is no entry
abbrev pub children_in : Packed → ℕ → List ℕ
children_in packed n = or_none (option_map (λ own. own.items) (get nat_cmp packed.children n))

-- what is put into the item of a number, where these are put into the parent
abbrev pub put_at : Option ℕ → List ℕ → ℕ → List ℕ
put_at None children n = []
put_at (Some parent) children n = cond (parent == n) children []

-- how many of it they are
abbrev pub cut_at : Option ℕ → ℕ → ℕ → ℕ
cut_at None count n = 0
cut_at (Some parent) count n = cond (parent == n) count 0

-- the item that an event puts others into
abbrev pub filled : Body → Option (List ℕ)
filled (Note items) = None
filled (Ship items sites outside) = None
filled (Make id ins outs) = None
filled (Pack Add parent children) = parent
filled (Pack Observe parent children) = None
filled (Pack Delete parent children) = None

-- its number
abbrev pub parent_number : List (List ℕ) → Body → Option ℕ
parent_number names b = option_and_then (number_in names) (filled b)

-- the items that events put into one, in order
abbrev pub children_of : List Content → List ℕ → List (List ℕ)
children_of events i = flat_map (λ e. put_into (i ∷ []) e.body) events

-- the numbers of what the events put into the item of a number, none where there is no item
abbrev pub children_at : List (List ℕ) → List Content → Option (List ℕ) → List ℕ
children_at names events None = []
children_at names events (Some i) = numbers_of names (children_of events i)

-- under each number stands what the events put into its item, no more and no less, in order
abbrev pub HasPacked : (ℕ → List ℕ) → List Content → Type 0
HasPacked packed events = (n : ℕ) → packed n ≡ children_at (numbered events) events (slice_get (numbered events) n)
