use Rattle.std.proofs.Common.{◌≡◌, map, drop}
use Rattle.std.specs.Prelude.{bytes_eq}
use Rattle.std.specs.List.{list_any}
use Rattle.event_json.proofs.site_checks.is_among.Given as goal

abbrev pub invariant-loop-other : goal.invariant-loop-other
invariant-loop-other l = list_any (λ t. bytes_eq t l.text) (map (λ t. t.now) (drop l.other-index l.others)) ≡ list_any (λ t. bytes_eq t l.text) (map (λ t. t.now) l.others)
