use Rattle.std.proofs.Common.{[], ap, ◌∙◌}
use Rattle.serde_json.specs.Data.{array}
use Rattle.serde_json.specs.View.{items_of, view}
use Rattle.document_convert.specs.Parted.{members_at, thousand, with_thousand}
use Rattle.document_convert.proofs.ByThousands.{set_twice}
use Rattle.document_convert.proofs.parted.listed_part.Goals as goal

pub returns : goal.returns
returns c =
    let d = view c.args.event.now in
    let name = c.args.name.now in
    let n = c.args.number in
    c.in_ok-found.ensures
    ∙ ap (with_thousand d name n) (c.in_ok-copy.ensures.cases ∙ c.requires)
    ∙ set_twice name (array (items_of (thousand n (members_at name d)))) (array (items_of [])) d
