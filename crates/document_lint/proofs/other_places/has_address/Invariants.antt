use Rattle.std.proofs.Common.{◌≡◌, ◌≤◌}
use Rattle.event_json.specs.declared.limits.TheConstants.{MAX_ADDRESSES}
use Rattle.document_lint.specs.OtherPlaces.{has_address}
use Rattle.document_lint.proofs.other_places.has_address.Given as goal

-- of the addresses so far
abbrev pub invariant-loop-place : goal.invariant-loop-place
invariant-loop-place l = (l.has ≡ has_address l.sites l.site l.text l.place) × (l.place ≤ MAX_ADDRESSES)
