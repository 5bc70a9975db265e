-- What was checked of an event, and the event that is built of it.
use Rattle.std.specs.Prelude.{◌≡◌, ◌<◌, ⊤, List, length, None, IsSome}
use Rattle.event_json.specs.declared.bodies.Action.TheVariants.{Add}
use Rattle.event_json.specs.declared.bodies.Body.{Body}
use Rattle.event_json.specs.declared.bodies.Body.TheVariants.{Make, Pack}
use Rattle.event_json.specs.declared.event_checks.CheckedBody.{CheckedBody}
use Rattle.event_json.specs.declared.event_checks.CheckedBody.TheVariants.{Object, Transformation, Aggregation}
use Rattle.event_json.specs.declared.event_checks.CheckedEvent.{CheckedEvent}
use Rattle.event_json.specs.EventReading.{shipment}
use Rattle.event_json.specs.Events.{Content, IsInstant}
use Rattle.event_json.specs.Sites.{Site}

-- what a checked event says of its items
abbrev pub body_of : List Site → CheckedBody → Body
body_of sites (Object items destinations) = shipment sites items destinations
body_of sites (Transformation id ins outs) = Make id ins outs
body_of sites (Aggregation action parent children) = Pack action parent children

-- the event that is built of a checked one
abbrev pub content_of : List Site → CheckedEvent → Content
content_of sites event = record { id = event.head.id; instant = event.head.instant; body = body_of sites event.body }

-- a transformation without an id has inputs and outputs; what children were put into is named
abbrev pub IsComplete : CheckedBody → Type 0
IsComplete (Object items destinations) = ⊤
IsComplete (Transformation id ins outs) = id ≡ None → (0 < length ins) × (0 < length outs)
IsComplete (Aggregation action parent children) = action ≡ Add → IsSome parent

-- an event that can be built
abbrev pub IsReady : CheckedEvent → Type 0
IsReady event = IsInstant event.head.instant × IsComplete event.body
