use Rattle.std.proofs.Common.{◌≡◌, ◌++◌, ◌+◌, drop}
use Rattle.std.specs.List.{enumerate_from, flat_map}
use Rattle.serde_json.specs.View.{items_view}
use Rattle.event_json.specs.Untraced.{in_order}
use Rattle.document_lint.specs.Findings.{event_findings}
use Rattle.document_lint.proofs.linting.push_events.Given as goal

-- what is found of the events so far and of the rest is all of it
abbrev pub invariant-loop-place : goal.invariant-loop-place
invariant-loop-place l =
    l.findings.items ++ flat_map (event_findings l.listing.sites.now l.listing.here) (enumerate_from (l.place + 1) (in_order (items_view (drop l.place l.list))))
    ≡ l.fn.findings.items ++ flat_map (event_findings l.listing.sites.now l.listing.here) (enumerate_from 1 (in_order (items_view l.list)))
