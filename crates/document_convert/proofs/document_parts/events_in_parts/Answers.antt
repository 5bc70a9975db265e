use Rattle.std.proofs.Common.{◌≤◌, length, ap, ◌∙◌, arith}
use Rattle.std.specs.List.{flat_map}
use Rattle.document_convert.specs.Parted.{event_parts}
use Rattle.document_convert.proofs.Lists.{listed_taken}
use Rattle.document_convert.proofs.document_parts.events_in_parts.Goals as goal

pub returns : goal.returns
returns c =
    let all : length c.args.list.now ≤ c.loop-value.value-index = omega arith in
    c.loop-value.invariant ∙ ap (flat_map event_parts) (listed_taken c.args.list.now c.loop-value.value-index all)
