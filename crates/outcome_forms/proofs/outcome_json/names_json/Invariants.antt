use Rattle.std.proofs.Common.{◌≡◌, ◌≤◌, map, take}
use Rattle.serde_json.specs.Data.{string}
use Rattle.serde_json.specs.View.{view}
use Rattle.outcome_forms.proofs.outcome_json.names_json.Given as goal

-- the names so far
abbrev pub invariant-loop-number : goal.invariant-loop-number
invariant-loop-number l = (map view l.list.items ≡ map (λ s. string s.name) (take l.number l.sites)) × (l.number ≤ l.number-end)
