use Rattle.std.proofs.Common.{codes, map, ap, ◌∙◌}
use Rattle.serde_json.specs.View.{view}
use Rattle.document_convert.specs.Documents.{body_of}
use Rattle.document_convert.specs.Parted.{thousand}
use Rattle.document_convert.specs.Types.{with_member}
use Rattle.document_convert.proofs.ByThousands.{thousand_mapped}
use Rattle.document_convert.proofs.document_parts.document_of.Goals as goal

pub returns : goal.returns
returns c =
    let events = map view c.args.events.now in
    let n = c.args.number in
    let body = c.in_ok-body.ensures ∙ ap body_of (c.in_ok-members.ensures ∙ ap (map view) c.thousand-slice.ensures ∙ thousand_mapped view n c.args.events.now) in
    c.in_ok-document.ensures
    ∙ ap (λ v. with_member (codes "epcisBody") v (view c.in_ok-copy.copy)) body
    ∙ ap (with_member (codes "epcisBody") (body_of (thousand n events))) c.in_ok-copy.ensures.cases
