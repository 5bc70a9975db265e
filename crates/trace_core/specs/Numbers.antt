-- Items by number: each item that events name has a number, in the order in which they are first named.
use Rattle.std.specs.Prelude.{◌≡◌, ◌↔◌, ℕ, zero, suc, cond, List, [], ◌∷◌, ◌++◌, Option, Some, None, map, length, take, slice_get, option_map, unwrap_or, Contains}
use Rattle.std.specs.List.{flat_map}
use Rattle.event_json.specs.Events.{Content}
use Rattle.event_json.specs.declared.bodies.Body.{Body}
use Rattle.event_json.specs.declared.bodies.Body.TheVariants.{Note, Ship, Make, Pack}
use Rattle.trace_core.specs.declared.event_items.Members.{Members}
use Rattle.trace_core.specs.PairTests.{lists, same_item}
use Rattle.trace_core.specs.Places.{kept, with_last}
use Rattle.trace_core.specs.Spreads.{items_of}

-- the number of an item: its place among the names
abbrev pub number_in : List (List ℕ) → List ℕ → Option ℕ
number_in [] i = None
number_in (x ∷ xs) i = cond (same_item x i) (Some 0) (option_map suc (number_in xs i))

-- with this item at the end, unless it is there
abbrev pub with_name : List (List ℕ) → List ℕ → List (List ℕ)
with_name names i = cond (lists names i) names (names ++ i ∷ [])

abbrev pub with_names : List (List ℕ) → List (List ℕ) → List (List ℕ)
with_names names [] = names
with_names names (i ∷ is) = with_names (with_name names i) is

-- the items that events name, each once, in the order in which they are first named
unfoldable pub numbered : List Content → List (List ℕ)
numbered events = with_names [] (flat_map (λ e. items_of e.body) events)

-- each name has its place as its number, so none comes twice
abbrev pub AreApart : List (List ℕ) → Type 0
AreApart names = (n : ℕ) (i : List ℕ) → slice_get names n ≡ Some i → number_in names i ≡ Some n

-- an item, and the places of the transformations that take it in
abbrev pub Named : Type 0
Named = List ℕ × List ℕ

abbrev pub names_of : List Named → List (List ℕ)
names_of named = map (λ x. x.0) named

-- the places of an item; one without places is as good as unknown
abbrev pub item_places : List Named → List ℕ → Option (List ℕ)
item_places [] i = None
item_places (x ∷ xs) i = cond (same_item x.0 i) (kept x.1) (item_places xs i)

-- with other places of an item
abbrev pub changed : (List ℕ → List ℕ) → List ℕ → List Named → List Named
changed f i [] = []
changed f i (x ∷ xs) = cond (same_item x.0 i) ((x.0, f x.1) ∷ xs) (x ∷ changed f i xs)

-- with other places at a number
abbrev pub changed_at : (List ℕ → List ℕ) → ℕ → List Named → List Named
changed_at f n [] = []
changed_at f zero (x ∷ xs) = (x.0, f x.1) ∷ xs
changed_at f (suc n) (x ∷ xs) = x ∷ changed_at f n xs

-- with this item, which is new if it isn't known
abbrev pub known_too : List ℕ → List Named → List Named
known_too i named = cond (lists (names_of named) i) named (named ++ (i, []) ∷ [])

-- with this place of an item, which is new if it isn't known
abbrev pub noted : ℕ → List ℕ → List Named → List Named
noted place i named = cond (lists (names_of named) i) (changed (with_last place) i named) (named ++ (i, place ∷ []) ∷ [])

-- the outputs of a transformation
abbrev pub outs_in : Body → List (List ℕ)
outs_in (Note items) = []
outs_in (Ship items sites outside) = []
outs_in (Make id ins outs) = outs
outs_in (Pack action parent children) = []

-- the items that an event ships, makes or puts into another, sees there or takes out
abbrev pub moved_in : Body → List (List ℕ)
moved_in (Note items) = []
moved_in (Ship items sites outside) = items
moved_in (Make id ins outs) = outs
moved_in (Pack action parent children) = children

-- the numbers of known items
abbrev pub numbers_of : List (List ℕ) → List (List ℕ) → List ℕ
numbers_of names items = map (λ i. unwrap_or (number_in names i) 0) items

-- just the numbers of the known ones of the items
abbrev pub AreNumbersOf : List (List ℕ) → List (List ℕ) → List ℕ → Type 0
AreNumbersOf names items numbers = (n : ℕ) → Contains numbers n ↔ ((i : List ℕ) × Contains items i × (number_in names i ≡ Some n))

-- the numbers of the outputs of the event at a place
abbrev pub outs_at : List Content → Option Content → List ℕ
outs_at events None = []
outs_at events (Some e) = numbers_of (numbered events) (outs_in e.body)

-- what is kept of the event at a place
pub record IsMembers (events : List Content) (k : ℕ) (e : Content) (m : Members) : Type 0 where
  pub known : m.known ≡ length (numbered (take k events))
  pub outs : m.outs ≡ numbers_of (numbered events) (outs_in e.body)

pub record HasMembers (events : List Content) (members : List Members) : Type 0 where
  pub count : length members ≡ length events
  pub each : (k : ℕ) (e : Content) (m : Members) → slice_get events k ≡ Some e → slice_get members k ≡ Some m → IsMembers events k e m
