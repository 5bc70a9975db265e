use Rattle.std.proofs.Common.{◌≡◌, map, drop}
use Rattle.event_json.specs.Sites.{repeats}
use Rattle.event_json.proofs.site_checks.repeats.Given as goal

abbrev pub invariant-loop-place : goal.invariant-loop-place
invariant-loop-place l = repeats (map (λ t. t.now) (drop l.place l.texts)) ≡ repeats (map (λ t. t.now) l.texts)
