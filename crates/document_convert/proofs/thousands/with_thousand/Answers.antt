use Rattle.std.proofs.Common.{◌≡◌, List, map, sym, ap, ◌∙◌}
use Rattle.serde_json.specs.Data.{Data}
use Rattle.serde_json.specs.View.{view}
use Rattle.event_json.specs.Untraced.{in_order}
use Rattle.document_convert.specs.Parted.{members_at, thousand, with_list}
use Rattle.document_convert.proofs.ByThousands.{thousand_mapped}
use Rattle.document_convert.proofs.Lists.{listed_back}
use Rattle.document_convert.proofs.thousands.with_thousand.Goals as goal

pub returns : goal.returns
returns c =
    let name = c.args.name.now in
    let n = c.args.number in
    let list = c.array_at-list.result.now in
    let whole : map view list ≡ members_at name (view c.args.event.now) = sym (listed_back (map view list)) ∙ ap in_order c.array_at-list.ensures in
    c.in_ok-found.ensures
    ∙ ap (λ (ms : List Data). with_list name ms (view c.args.part)) (c.in_ok-members.ensures ∙ ap (map view) c.thousand-slice.ensures ∙ thousand_mapped view n list ∙ ap (thousand n) whole)
