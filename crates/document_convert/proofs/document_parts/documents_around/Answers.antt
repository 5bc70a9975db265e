use Rattle.std.proofs.Common.{[], codes, length, map, ap, ◌∙◌}
use Rattle.serde_json.specs.Data.{string}
use Rattle.serde_json.specs.View.{view}
use Rattle.document_convert.specs.Documents.{body_of}
use Rattle.document_convert.specs.Parted.{of_each, thousand, thousands}
use Rattle.document_convert.specs.Types.{with_member}
use Rattle.document_convert.proofs.ByThousands.{set_twice}
use Rattle.document_convert.proofs.document_parts.documents_around.Goals as goal

pub returns : goal.returns
returns c =
    let events = map view c.args.events.now in
    let count = thousands (length events) in
    let typed = with_member (codes "type") (string (codes "EPCISDocument")) (view c.args.value) in
    c.in_ok-found.ensures
    ∙ ap (λ v. of_each (λ k. with_member (codes "epcisBody") (body_of (thousand k events)) v) count) c.in_ok-beside.ensures
    ∙ (λ i. of_each (λ k. set_twice (codes "epcisBody") (body_of (thousand k events)) (body_of []) typed i) count)
