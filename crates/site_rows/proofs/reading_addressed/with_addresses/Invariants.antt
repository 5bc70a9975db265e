use Rattle.std.proofs.Common.{◌≡◌, length, map, take}
use Rattle.event_json.specs.Sites.{Site}
use Rattle.site_rows.specs.AddressesInTurn.{HaveAddresses}
use Rattle.site_rows.proofs.reading_addressed.with_addresses.Given as goal

-- the names so far, and the addresses that rows give for each
abbrev pub invariant-loop-number : goal.invariant-loop-number
invariant-loop-number l = record {
  names : map (λ (s : Site). s.name) l.sites ≡ map (λ (s : Site). s.name) (take l.number l.names);
  counted : length l.sites ≡ l.number;
  have : HaveAddresses l.rows l.sites;
}
