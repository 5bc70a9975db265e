-- What one event more sends, with what lies in it.
use Rattle.std.specs.Prelude.{ℕ, List, [], Some, None, Contains}
use Rattle.event_json.specs.Events.{Content}
use Rattle.event_json.specs.declared.bodies.Body.{Body}
use Rattle.event_json.specs.declared.bodies.Body.TheVariants.{Note, Ship, Make, Pack}
use Rattle.event_json.specs.declared.bodies.Action.TheVariants.{Add, Observe, Delete}
use Rattle.trace_core.specs.Pairs.{Carries, IsSentTo}
use Rattle.trace_core.specs.Relations.{ReachedFrom}

-- the items that an event ships, or puts into another, sees there or takes out
abbrev pub moved_items : Body → List (List ℕ)
moved_items (Note items) = []
moved_items (Ship items sites outside) = items
moved_items (Make id ins outs) = []
moved_items (Pack action parent children) = children

-- where they go by it: to the sites of a shipment, or to where the parent was sent
abbrev pub GoTo : List Content → Body → ℕ → Type 0
GoTo events (Note items) site = ⊥
GoTo events (Ship items sites outside) site = Contains sites site
GoTo events (Make id ins outs) site = ⊥
GoTo events (Pack Add None children) site = ⊥
GoTo events (Pack Add (Some p) children) site = IsSentTo events p site
GoTo events (Pack Observe parent children) site = ⊥
GoTo events (Pack Delete parent children) site = ⊥

-- the event, after the others, sends the item to the site: what it moves goes there, and the item is carried with that
abbrev pub SendsBy : List Content → Body → List ℕ → ℕ → Type 0
SendsBy events b item site = GoTo events b site × ReachedFrom (Carries events) (moved_items b) item
