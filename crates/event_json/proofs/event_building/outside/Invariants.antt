use Rattle.std.proofs.Common.{◌≡◌, ◌++◌, drop}
use Rattle.std.specs.Prelude.{filter, is_none}
use Rattle.event_json.specs.Sites.{addressed}
use Rattle.event_json.proofs.event_building.outside.Given as goal

abbrev pub invariant-loop-text : goal.invariant-loop-text
invariant-loop-text l = l.outside.items ++ filter (λ t. is_none (addressed l.sites t)) (drop l.text-index l.texts) ≡ filter (λ t. is_none (addressed l.sites t)) l.texts
