use Rattle.std.proofs.Common.{◌≡◌, take}
use Rattle.event_json.proofs.site_entries.copy_addresses.Given as goal

abbrev pub invariant-loop-address : goal.invariant-loop-address
invariant-loop-address l = l.copies.items ≡ take l.address-index l.addresses
