use Rattle.std.proofs.Common.{◌≤◌, map}
use Rattle.std.specs.List.{find}
use Rattle.event_json.specs.Sites.{Site}
use Rattle.document_convert.specs.Places.{are_same}
use Rattle.document_convert.proofs.PlaceLemmas.{Gathered}
use Rattle.document_convert.proofs.places.first_addresses.Given as goal

-- those of the sites so far were found
abbrev pub invariant-loop-number : goal.invariant-loop-number
invariant-loop-number l = record {
  gathered : Gathered (λ (s : Site). find (are_same l.fn.by l.text) s.addresses) l.sites l.number (map (λ t. t.now) l.found.items);
  within : l.number ≤ l.number-end;
}
