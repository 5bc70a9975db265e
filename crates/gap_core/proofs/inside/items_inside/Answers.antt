use Rattle.std.proofs.Common.{◌↔◌, ◌∙◌, List, ℕ, sym}
use Rattle.std.specs.List.{Contains}
use Rattle.std.specs.List.Sorted.{IsStrictlySortedBy}
use Rattle.std.proofs.lemmas.Map.Lookups.{CmpEqualImpliesEq}
use Rattle.trace_core.specs.Chains.{sites_at}
use Rattle.gap_core.specs.Inside.{AreInside}
use Rattle.gap_core.specs.Sources.{item_cmp}
use Rattle.gap_core.proofs.InsideSteps.{found_inside, if_both, nothing_inside}
use Rattle.gap_core.proofs.inside.items_inside.Goals as goal

pub returns-then-is_empty : goal.returns-then-is_empty
returns-then-is_empty c = nothing_inside c.args.sites.now c.args.item.now c.new.result.items c.new.ensures.items (sym c.if-is_empty.true ∙ c.is_empty.ensures)

pub returns : goal.returns
returns c =
    let sites = sites_at c.args.sites.now in
    let listed = c.in_ok-listed.field-0.items in
    if_both (λ items. IsStrictlySortedBy item_cmp items.items) (λ items. CmpEqualImpliesEq item_cmp → (i : List ℕ) → Contains items.items i ↔ Contains listed i) (λ items. AreInside sites c.args.item.now items.items)
    (λ items ascending same. found_inside sites c.args.item.now c.new-children.result c.note_packed.new.found c.in_ok-inside.inside listed items.items c.new-children.ensures c.in_ok-note_packed.ensures c.in_ok-inside.ensures c.in_ok-listed.ensures same ascending)
    c.in_order.result c.in_order.ensures.ascending c.in_order.ensures.same
