use Rattle.std.proofs.Common.{◌≤◌}
use Rattle.event_json.specs.declared.limits.TheConstants.{MAX_ADDRESSES}
use Rattle.document_lint.proofs.SiteLists.{Passed, addresses_at}
use Rattle.document_lint.proofs.unlisted.has_location.Given as goal

-- none of the addresses so far names the location
abbrev pub invariant-loop-place : goal.invariant-loop-place
invariant-loop-place l = record {
  passed : Passed l.location (addresses_at l.sites l.site) l.place;
  within : l.place ≤ MAX_ADDRESSES;
}
