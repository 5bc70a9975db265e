use Rattle.std.proofs.Common.{◌≡◌, ◌++◌, drop}
use Rattle.std.specs.Prelude.{filter_map}
use Rattle.event_json.specs.Sites.{addressed}
use Rattle.event_json.proofs.event_building.traced.Given as goal

abbrev pub invariant-loop-text : goal.invariant-loop-text
invariant-loop-text l = l.traced.items ++ filter_map (addressed l.sites) (drop l.text-index l.texts) ≡ filter_map (addressed l.sites) l.texts
