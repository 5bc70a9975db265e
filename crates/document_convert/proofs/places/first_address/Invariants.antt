use Rattle.std.proofs.Common.{◌≤◌}
use Rattle.event_json.specs.declared.limits.TheConstants.{MAX_ADDRESSES}
use Rattle.document_convert.specs.Places.{are_same}
use Rattle.document_convert.proofs.PlaceLemmas.{Looked}
use Rattle.document_convert.proofs.places.first_address.Given as goal

-- none of the addresses so far is the same
abbrev pub invariant-loop-place : goal.invariant-loop-place
invariant-loop-place l = record {
  looked : Looked (are_same l.fn.by l.text) l.sites l.site l.place;
  within : l.place ≤ MAX_ADDRESSES;
}
