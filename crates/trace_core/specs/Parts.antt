-- What the parts of a transformation take in, all parts of one transformationID together.
use Rattle.std.specs.Prelude.{◌≡◌, ℕ, List, Some, Any}
use Rattle.event_json.specs.Events.{Content}
use Rattle.trace_core.specs.Pairs.{make_id, TakesIn}

-- a part of the transformation with this id takes the item in
abbrev pub TakesInAsPart : List Content → List ℕ → List ℕ → Type 0
TakesInAsPart events id item = Any (λ e. (make_id e.body ≡ Some id) × TakesIn item e.body) events
