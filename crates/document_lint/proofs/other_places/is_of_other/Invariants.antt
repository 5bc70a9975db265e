use Rattle.std.proofs.Common.{◌≡◌, ◌≤◌}
use Rattle.document_lint.specs.OtherPlaces.{is_other_below}
use Rattle.document_lint.proofs.other_places.is_of_other.Given as goal

-- of the sites so far
abbrev pub invariant-loop-number : goal.invariant-loop-number
invariant-loop-number l = (l.other ≡ is_other_below l.sites l.here l.text l.number) × (l.number ≤ l.number-end)
