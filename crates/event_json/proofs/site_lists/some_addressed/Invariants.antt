use Rattle.std.proofs.Common.{◌≡◌, map, drop}
use Rattle.std.specs.Prelude.{is_some}
use Rattle.std.specs.List.{list_any}
use Rattle.event_json.specs.Sites.{addressed}
use Rattle.event_json.proofs.site_lists.some_addressed.Given as goal

abbrev pub invariant-loop-text : goal.invariant-loop-text
invariant-loop-text l = list_any (λ a. is_some (addressed l.sites a)) (map (λ t. t.now) (drop l.text-index l.texts)) ≡ list_any (λ a. is_some (addressed l.sites a)) (map (λ t. t.now) l.texts)
