use Rattle.std.proofs.Common.{◌≡◌, take, map}
use Rattle.event_json.proofs.site_entries.addresses_of.Given as goal

abbrev pub invariant-loop-text : goal.invariant-loop-text
invariant-loop-text l = l.addresses.items ≡ map (λ t. t.now) (take l.text-index l.texts)
