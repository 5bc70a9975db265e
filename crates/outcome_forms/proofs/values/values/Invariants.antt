use Rattle.std.proofs.Common.{◌≡◌, map, take}
use Rattle.serde_json.specs.View.{view}
use Rattle.outcome_forms.proofs.values.values.Given as goal

-- the values so far
abbrev pub invariant-loop-thing : goal.invariant-loop-thing
invariant-loop-thing g l = map view l.values.items ≡ map (g.T.ToJson.value l.sites) (take l.thing-index l.things)
