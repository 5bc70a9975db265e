use Rattle.std.proofs.Common.{◌≡◌, Some, None, sym, ap, ◌∙◌}
use Rattle.std.specs.Prelude.{◌==◌}
use Rattle.std.specs.FinMap.{get, insert}
use Rattle.frame_core.specs.Identifiers.{recall_cmp}
use Rattle.frame_core.specs.Orders.{recall_total}
use Rattle.frame_core.specs.Tables.{as_map}
use Rattle.frame_core.proofs.Maps.{map_written, map_found}
use Rattle.site_core.specs.ItemSets as set
use Rattle.site_core.specs.ItemSets.{Items}
use Rattle.site_core.proofs.quarantines.remove_in.Goals as goal

-- the recall has the set that is borrowed
lent : (c : goal.After-recalls-in-Some-1) → get (as_map recall_cmp c.args.recalls.now) c.args.recall ≡ Some c.in-Some.items.now
lent c = sym (c.in-Some.ensures.value ∙ map_found recall_total c.args.recalls.now c.args.recall c.in-Some.ensures.ordered)

one : (c : goal.After-recalls-in-Some-1) (items : Items) → get (as_map recall_cmp c.args.recalls.now) c.args.recall ≡ Some items → c.in-Some.items.now ≡ items
one c items has = let same : Some c.in-Some.items.now ≡ Some items = sym (lent c) ∙ has in cc

pub returns-in-Some-clause-left : goal.returns-in-Some-clause-left
returns-in-Some-clause-left c items has =
    map_written recall_total c.args.recalls.now (c.get_mut.follows.lender c.remove.new.self) c.args.recall c.remove.new.self items c.in-Some.ensures.ordered has (c.get_mut.follows.holds c.remove.new.self).0
    ∙ ap (insert (as_map recall_cmp c.args.recalls.now) c.args.recall) (c.remove.ensures.left ∙ ap (λ s. set.remove s c.args.item.now) (one c items has))

pub returns-in-Some-clause-emptied : goal.returns-in-Some-clause-emptied
returns-in-Some-clause-emptied c items has =
    c.is_empty.ensures.count ∙ ap (λ s. set.len s == 0) (c.remove.ensures.left ∙ ap (λ s. set.remove s c.args.item.now) (one c items has))

pub returns-in-Some-clause-none : goal.returns-in-Some-clause-none
returns-in-Some-clause-none c none = let twice : Some c.in-Some.items.now ≡ None = sym (lent c) ∙ none in cc

pub returns-in-None-clause-left : goal.returns-in-None-clause-left
returns-in-None-clause-left c items has =
    let twice : None ≡ Some items = c.in-None.ensures.value ∙ map_found recall_total c.args.recalls.now c.args.recall c.in-None.ensures.ordered ∙ has in cc

pub returns-in-None-clause-emptied : goal.returns-in-None-clause-emptied
returns-in-None-clause-emptied c items has =
    let twice : None ≡ Some items = c.in-None.ensures.value ∙ map_found recall_total c.args.recalls.now c.args.recall c.in-None.ensures.ordered ∙ has in cc
