-- The relation of pairs as tests that compute.
use Rattle.std.specs.Prelude.{◌==◌, ℕ, zero, suc, Bool, false, not, cond, ◌&&◌, ◌||◌, List, [], ◌++◌, length, Option, Some, None, nat_eq}
use Rattle.std.specs.List.{list_any, flat_map}
use Rattle.std.specs.Cmp.Lexicographic.{pointwise}
use Rattle.event_json.specs.Events.{Content}
use Rattle.event_json.specs.declared.bodies.Body.{Body}
use Rattle.event_json.specs.declared.bodies.Body.TheVariants.{Note, Ship, Make, Pack}
use Rattle.event_json.specs.declared.bodies.Action.TheVariants.{Add, Observe, Delete}
use Rattle.trace_core.specs.declared.pairs.Pair.{Pair}
use Rattle.trace_core.specs.Pairs.{make_id}
use Rattle.trace_core.specs.Sites.{SiteEvents}

-- whether two keys are of one item
abbrev pub same_item : List ℕ → List ℕ → Bool
same_item = pointwise nat_eq

-- whether the item is one of a list
abbrev pub lists : List (List ℕ) → List ℕ → Bool
lists items item = list_any (λ i. same_item i item) items

-- the items that an event ships to the site
abbrev pub shipped_at : ℕ → Body → List (List ℕ)
shipped_at site (Note items) = []
shipped_at site (Ship items sites outside) = cond (list_any (λ s. s == site) sites) items []
shipped_at site (Make id ins outs) = []
shipped_at site (Pack action parent children) = []

-- the items that an event puts into another
abbrev pub put_in : Body → List (List ℕ)
put_in (Note items) = []
put_in (Ship items sites outside) = []
put_in (Make id ins outs) = []
put_in (Pack Add None children) = []
put_in (Pack Add (Some parent) children) = children
put_in (Pack Observe parent children) = []
put_in (Pack Delete parent children) = []

-- those that it puts into one of these
abbrev pub put_into : List (List ℕ) → Body → List (List ℕ)
put_into items (Note noted) = []
put_into items (Ship shipped sites outside) = []
put_into items (Make id ins outs) = []
put_into items (Pack Add None children) = []
put_into items (Pack Add (Some parent) children) = cond (lists items parent) children []
put_into items (Pack Observe parent children) = []
put_into items (Pack Delete parent children) = []

-- the items, with what lies in them, and in that, so many times
abbrev pub carried_in : List Content → ℕ → List (List ℕ) → List (List ℕ)
carried_in events zero items = items
carried_in events (suc n) items = carried_in events n (items ++ flat_map (λ e. put_into items e.body) events)

-- the item is an input of a transformation
abbrev pub takes_in : List ℕ → Body → Bool
takes_in item (Note items) = false
takes_in item (Ship items sites outside) = false
takes_in item (Make id ins outs) = lists ins item
takes_in item (Pack action parent children) = false

-- the item is an output of a transformation
abbrev pub gives_out : List ℕ → Body → Bool
gives_out item (Note items) = false
gives_out item (Ship items sites outside) = false
gives_out item (Make id ins outs) = lists outs item
gives_out item (Pack action parent children) = false

-- whether both have an id, and it is the same
abbrev pub same_id : Option (List ℕ) → Option (List ℕ) → Bool
same_id (Some a) (Some b) = pointwise nat_eq a b
same_id (Some a) None = false
same_id None b = false

-- the item, or what it lies in, was shipped to the site: as many times as there are items put into others are enough
unfoldable pub is_sent : List Content → List ℕ → ℕ → Bool
is_sent events item site =
    lists (carried_in events (length (flat_map (λ e. put_in e.body) events)) (flat_map (λ e. shipped_at site e.body) events)) item

-- the site `me` shipped the item, or what it lies in, to another site
unfoldable pub ships_at : ℕ → List Content → List ℕ → ℕ → Bool
ships_at me events item site = not (site == me) && is_sent events item site

-- i is an input and j an output of one transformation, or of two with equal id
unfoldable pub inside_at : List Content → List ℕ → List ℕ → Bool
inside_at events i j =
    list_any (λ e. takes_in i e.body && gives_out j e.body) events
    || list_any (λ e. takes_in i e.body && list_any (λ f. same_id (make_id e.body) (make_id f.body) && gives_out j f.body) events) events

-- whether the item at the site is related to the pair
unfoldable pub is_related : SiteEvents → List ℕ → Pair → Bool
is_related s item p =
    (ships_at s.me s.events item p.site && same_item item p.item)
    || (p.site == s.me && inside_at s.events item p.item)
