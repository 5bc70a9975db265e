use Rattle.std.proofs.Common.{◌≡◌, map, take}
use Rattle.serde_json.specs.View.{view}
use Rattle.outcome_forms.specs.Json.{outside_json}
use Rattle.outcome_forms.proofs.outside_json.outside_values.Given as goal

-- the values so far
abbrev pub invariant-loop-place : goal.invariant-loop-place
invariant-loop-place l = map view l.values.items ≡ map (outside_json l.sites) (take l.place l.account.outside)
