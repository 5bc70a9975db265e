use Rattle.std.proofs.Common.{ap, sym, ◌∙◌}
use Rattle.serde_json.specs.View.{view}
use Rattle.document_convert.specs.Quantities.{without_member}
use Rattle.document_convert.proofs.Without.{removed_view}
use Rattle.document_convert.proofs.quantities.without_member.Goals as goal

pub returns-in-Object : goal.returns-in-Object
returns-in-Object c =
    removed_view c.args.name.now c.in-Object.members c.remove.new.self c.iter-ascending.ensures.ordered c.remove.ensures.entries
    ∙ ap (λ v. without_member c.args.name.now (view v)) (sym c.in-Object.is)
