use Rattle.std.proofs.Common.{◌∙◌, sym, ap}
use Rattle.std.specs.List.{Contains}
use Rattle.std.specs.Option.{option_map}
use Rattle.std.proofs.lemmas.Result.{on_ok_weaker}
use Rattle.gap_core.specs.Unlinked.{IsUnknownItem}
use Rattle.gap_core.proofs.Turns.{adds_at, none_at}
use Rattle.gap_core.proofs.unlinked.push_child_at.Goals as goal

pub returns-in-Some : goal.returns-in-Some
returns-in-Some c = on_ok_weaker c.push_child.result
    (adds_at c.args.children.now (IsUnknownItem c.args.site c.args.container.now c.args.by c.args.inside.now) c.args.place c.in-Some.child.now (Contains c.args.found.now.items) (Contains c.push_child.new.found.items)
    (sym (sym (ap (option_map (λ i. i.now)) c.in-Some.is) ∙ c.get.ensures)))
    c.push_child.ensures

pub returns-in-None : goal.returns-in-None
returns-in-None c = none_at c.args.children.now (IsUnknownItem c.args.site c.args.container.now c.args.by c.args.inside.now) c.args.place (Contains c.args.found.now.items)
    (sym (ap (option_map (λ i. i.now)) c.in-None.is) ∙ c.get.ensures)
