use Rattle.std.proofs.Common.{◌≡◌, map, take}
use Rattle.serde_json.specs.View.{view}
use Rattle.outcome_forms.specs.Json.{known_json}
use Rattle.outcome_forms.proofs.query_json.known_values.Given as goal

-- the values so far
abbrev pub invariant-loop-item : goal.invariant-loop-item
invariant-loop-item l = map view l.values.items ≡ map (known_json l.sites l.site) (take l.item-index l.items)
