use Rattle.std.proofs.Common.{◌≡◌, not, Some, None, sym, ap, ◌∙◌}
use Rattle.std.specs.BTreeMap.{BTreeMap, IsOrdered, get_by}
use Rattle.std.specs.FinMap.{get, insert}
use Rattle.frame_core.specs.Identifiers.{recall_cmp}
use Rattle.frame_core.specs.Numbers.{Recall}
use Rattle.frame_core.specs.Orders.{recall_total, recall_exact}
use Rattle.frame_core.specs.Tables.{as_map}
use Rattle.frame_core.proofs.Maps.{map_written, map_found}
use Rattle.site_core.specs.ItemSets as set
use Rattle.site_core.specs.ItemSets.{Items}
use Rattle.site_core.specs.Quarantines.{or_none, held}
use Rattle.site_core.proofs.Changes.{insert_same}
use Rattle.site_core.proofs.Held.{none_held}
use Rattle.site_core.proofs.Results.{after_ok, after_err, after_fault, of_value}
use Rattle.site_core.proofs.quarantines.hold_in.Goals as goal

-- the recall has the set that is borrowed
lent : (c : goal.After-recalls-in-Some-1) → get (as_map recall_cmp c.args.recalls.now) c.args.recall ≡ Some c.in-Some.items.now
lent c = sym (c.in-Some.ensures.value ∙ map_found recall_total c.args.recalls.now c.args.recall c.in-Some.ensures.ordered)

-- and it has what is written there
written : (c : goal.After-recalls-in-Some-1) (items : Items) → as_map recall_cmp (c.get_mut.follows.lender items) ≡ insert (as_map recall_cmp c.args.recalls.now) c.args.recall items
written c items = map_written recall_total c.args.recalls.now (c.get_mut.follows.lender items) c.args.recall items c.in-Some.items.now c.in-Some.ensures.ordered (lent c) (c.get_mut.follows.holds items).0

held_in_lent : (c : goal.After-recalls-in-Some-1) → held (as_map recall_cmp c.args.recalls.now) c.args.recall c.args.item ≡ set.contains c.in-Some.items.now c.args.item
held_in_lent c = ap (λ found. set.contains (or_none found) c.args.item) (lent c)

pub returns-in-Some-clause-new : goal.returns-in-Some-clause-new
returns-in-Some-clause-new c = of_value c.insert.result (λ new is. is ∙ ap not (sym (held_in_lent c))) c.insert.ensures.new

pub returns-in-Some-clause-ok : goal.returns-in-Some-clause-ok
returns-in-Some-clause-ok c = after_ok c.insert.result (λ is. written c c.insert.new.self ∙ ap (insert (as_map recall_cmp c.args.recalls.now) c.args.recall) (is ∙ ap (λ found. set.insert (or_none found) c.args.item) (sym (lent c)))) c.insert.ensures.ok

pub returns-in-Some-clause-err : goal.returns-in-Some-clause-err
returns-in-Some-clause-err c = after_err c.insert.result (λ is. written c c.insert.new.self ∙ ap (insert (as_map recall_cmp c.args.recalls.now) c.args.recall) is ∙ insert_same recall_total recall_exact (as_map recall_cmp c.args.recalls.now) c.args.recall c.in-Some.items.now (lent c)) c.insert.ensures.err

pub returns-in-Some-clause-only_new : goal.returns-in-Some-clause-only_new
returns-in-Some-clause-only_new c = after_err c.insert.result (λ is. held_in_lent c ∙ is) c.insert.ensures.only_new

-- the recall isn't kept
absent : (m : BTreeMap Recall Items) (r : Recall) → IsOrdered recall_cmp m → None ≡ get_by (recall_cmp r) m → get (as_map recall_cmp m) r ≡ None
absent m r up none = sym (none ∙ map_found recall_total m r up)

pub returns-in_err-new-clause-only_new : goal.returns-in_err-new-clause-only_new
returns-in_err-new-clause-only_new c = after_fault c.from_residual.result (none_held (as_map recall_cmp c.args.recalls.now) c.args.recall c.args.item (absent c.args.recalls.now c.args.recall c.in_default.ensures.ordered c.in_default.ensures.value))

pub returns-in_err-put-clause-only_new : goal.returns-in_err-put-clause-only_new
returns-in_err-put-clause-only_new c = after_fault c.from_residual-in_err-put.result (none_held (as_map recall_cmp c.args.recalls.now) c.args.recall c.args.item (absent c.args.recalls.now c.args.recall c.in_default.ensures.ordered c.in_default.ensures.value))

pub returns-clause-new : goal.returns-clause-new
returns-clause-new c =
    c.in_ok-new.ensures.new
    ∙ ap (λ s. not (set.contains s c.args.item)) (c.new-items.ensures ∙ ap or_none (sym (absent c.args.recalls.now c.args.recall c.in_default.ensures.ordered c.in_default.ensures.value)))

pub returns-clause-ok : goal.returns-clause-ok
returns-clause-ok c =
    c.in_ok-put.ensures.ok
    ∙ ap (λ (m : BTreeMap Recall Items). insert (as_map recall_cmp m) c.args.recall c.insert-2.new.self) c.get_mut.follows.holds-at-none
    ∙ ap (insert (as_map recall_cmp c.args.recalls.now) c.args.recall) (c.in_ok-new.ensures.ok ∙ ap (λ s. set.insert s c.args.item) (c.new-items.ensures ∙ ap or_none (sym (absent c.args.recalls.now c.args.recall c.in_default.ensures.ordered c.in_default.ensures.value))))
