use Rattle.std.proofs.Common.{◌≤◌}
use Rattle.document_lint.specs.Locations.{has_location, spelling}
use Rattle.document_lint.proofs.SiteLists.{Kept}
use Rattle.document_lint.proofs.unlisted.spellings_at.Given as goal

-- those of the sites so far were found
abbrev pub invariant-loop-number : goal.invariant-loop-number
invariant-loop-number l = record {
  kept : Kept (has_location l.location) (spelling l.place) l.sites l.number l.spellings.items;
  within : l.number ≤ l.number-end;
}
