use Rattle.std.proofs.Common.{◌≡◌, map, take}
use Rattle.serde_json.specs.View.{view}
use Rattle.outcome_forms.specs.Json.{used_json}
use Rattle.outcome_forms.proofs.gap_json.used_values.Given as goal

-- the values so far
abbrev pub invariant-loop-line : goal.invariant-loop-line
invariant-loop-line l = map view l.values.items ≡ map (used_json l.sites) (take l.line-index l.lines)
