-- The events that are kept: ObjectEvent, TransformationEvent and AggregationEvent of GS1 EPCIS 2.0 (core event types module).
use Rattle.std.specs.Prelude.{◌≡◌, ◌≤◌, ◌<◌, ◌+◌, ◌*◌, ◌^◌, ℕ, ℤ, pos, neg_ℤ, ◌≤ℤ◌, ◌<ℤ◌, List, length, Option, None, IfSome, IsSome}
use Rattle.event_json.specs.declared.bodies.Action.TheVariants.{Add}
use Rattle.event_json.specs.declared.bodies.Body.{Body}
use Rattle.event_json.specs.declared.bodies.Body.TheVariants.{Note, Ship, Make, Pack}
use Rattle.epc_core.specs.Spellings.{IsPlain}

-- an event as a site keeps it: its eventID, its instant in nanoseconds from 1970 in UTC, and what it says of its items
pub record Content : Type 0 where
  pub id : Option (List ℕ)
  pub instant : ℤ
  pub body : Body

-- where there is one it is plain
abbrev pub IsIdentifier : Option (List ℕ) → Type 0
IsIdentifier id = IfSome id IsPlain

-- the seconds of an instant, by the floor, fit a signed 64 bit number
abbrev pub IsInstant : ℤ → Type 0
IsInstant n = (neg_ℤ (pos (2 ^ 63 * 1_000_000_000)) ≤ℤ n) × (n <ℤ pos (2 ^ 63 * 1_000_000_000))

-- the limits of the lists; a shipment goes somewhere; a transformation that is reported in one event has inputs and outputs;
-- what is put into something has a parent
abbrev pub IsBody : Body → Type 0
IsBody (Note items) = length items ≤ 1000
IsBody (Ship items sites outside) = (length items ≤ 1000) × (0 < length sites + length outside) × (length sites + length outside ≤ 1000)
IsBody (Make id ins outs) = IsIdentifier id × (length ins ≤ 1000) × (length outs ≤ 1000) × (id ≡ None → (0 < length ins) × (0 < length outs))
IsBody (Pack action parent children) = (length children ≤ 1000) × (action ≡ Add → IsSome parent)
