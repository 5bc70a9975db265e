use Rattle.std.proofs.Common.{◌≡◌, map, drop}
use Rattle.std.specs.List.{list_all}
use Rattle.epc_core.specs.Items.{is_plain}
use Rattle.event_json.proofs.site_checks.are_plain.Given as goal

abbrev pub invariant-loop-text : goal.invariant-loop-text
invariant-loop-text l = list_all is_plain (map (λ t. t.now) (drop l.text-index l.texts)) ≡ list_all is_plain (map (λ t. t.now) l.texts)
