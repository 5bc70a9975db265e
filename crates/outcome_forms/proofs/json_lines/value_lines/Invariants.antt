use Rattle.std.proofs.Common.{◌≡◌, map, string_bytes, take}
use Rattle.serde_json.specs.View.{view}
use Rattle.outcome_forms.specs.Json.{json_lines}
use Rattle.outcome_forms.proofs.json_lines.value_lines.Given as goal

-- the lines so far
abbrev pub invariant-loop-value : goal.invariant-loop-value
invariant-loop-value l = string_bytes l.text ≡ json_lines (map view (take l.value-index l.values))
