use Rattle.std.proofs.Common.{◌≡◌, ◌++◌, List, ap, sym, ◌∙◌}
use Rattle.std.specs.List.{enumerate_from, flat_map}
use Rattle.serde_json.specs.View.{items_view}
use Rattle.event_json.specs.Documents.{few_events}
use Rattle.event_json.specs.Untraced.{in_order}
use Rattle.event_json.proofs.Lists.{items_count}
use Rattle.document_lint.specs.Findings.{event_findings, length_findings, list_findings, value_lint}
use Rattle.document_lint.specs.declared.findings.Finding.{Finding}
use Rattle.document_lint.proofs.linting.lint_value.Goals as goal

pub returns : goal.returns
unfolding value_lint
returns c =
    let list = c.in-Ok.list.now in
    let of_length = length_findings (few_events (items_view list)) in
    let of_events = flat_map (event_findings c.args.listing.now.sites.now c.args.listing.now.here) (enumerate_from 1 (in_order (items_view list))) in
    let found : c.from_vec.result ≡ list_findings c.args.listing.now.sites.now c.args.listing.now.here (items_view list) =
    c.from_vec.ensures ∙ c.in_ok-push_events.ensures
    ∙ ap (λ (fs : List Finding). fs ++ of_events) (c.in_ok-push_length.ensures ∙ ap (λ (fs : List Finding). fs ++ of_length) c.new-findings.ensures.items) in
    rw c.in-Ok.ensures (λ i. record { events = sym (items_count list) i; findings = found i })
