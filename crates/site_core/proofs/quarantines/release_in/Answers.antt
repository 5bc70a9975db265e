use Rattle.std.proofs.Common.{◌≡◌, ℕ, Bool, true, false, List, Option, Some, None, refl, sym, ap, ◌∙◌}
use Rattle.std.specs.Prelude.{◌==◌, if◌then◌else◌}
use Rattle.std.specs.FinMap.{get, insert, remove}
use Rattle.frame_core.specs.Identifiers.{recall_cmp}
use Rattle.frame_core.specs.Numbers.{Recall}
use Rattle.frame_core.specs.Orders.{recall_total, recall_exact}
use Rattle.frame_core.specs.Tables.{as_map}
use Rattle.site_core.specs.Holding.{without_item}
use Rattle.site_core.specs.ItemSets as set
use Rattle.site_core.specs.ItemSets.{Items}
use Rattle.site_core.specs.Quarantines.{Quarantine}
use Rattle.site_core.proofs.Changes.{remove_inserted}
use Rattle.site_core.proofs.Held.{without_none, without_some}
use Rattle.site_core.proofs.quarantines.release_in.Goals as goal

back : (q : Quarantine) (r : Recall) (b : Bool) (items : Items) → (if b then remove (insert q r items) r else insert q r items) ≡ (if b then remove q r else insert q r items)
back q r true items = remove_inserted recall_total recall_exact q r items
back q r false items = refl

-- what was taken from the set, and the recall with it where the set is empty then
taken : (q mid last : Quarantine) (r : Recall) (i : List ℕ) (emptied : Bool)
    → ((items : Items) → get q r ≡ Some items → mid ≡ insert q r (set.remove items i))
    → ((items : Items) → get q r ≡ Some items → emptied ≡ (set.len (set.remove items i) == 0))
    → (get q r ≡ None → (emptied ≡ false) × (mid ≡ q))
    → last ≡ (if emptied then remove mid r else mid)
    → last ≡ without_item q r i
taken q mid last r i emptied left empties none is = is ∙ by_recall (get q r) refl
  where
    by_recall : (found : Option Items) → get q r ≡ found → (if emptied then remove mid r else mid) ≡ without_item q r i
    by_recall None has = ap (λ b. if b then remove mid r else mid) (none has).0 ∙ (none has).1 ∙ sym (without_none q r i has)
    by_recall (Some items) has =
        ap (λ m. if emptied then remove m r else m) (left items has)
        ∙ back q r emptied (set.remove items i)
        ∙ sym (without_some q r i items emptied has (empties items has))

pub returns-then-remove_in : goal.returns-then-remove_in
returns-then-remove_in c =
    taken (as_map recall_cmp c.args.recalls.now) (as_map recall_cmp c.remove_in.new.recalls) (as_map recall_cmp c.take.new.map) c.args.recall c.args.item.now c.remove_in.result
    c.remove_in.ensures.left c.remove_in.ensures.emptied c.remove_in.ensures.none
    (c.take.ensures.left ∙ ap (λ b. if b then remove (as_map recall_cmp c.remove_in.new.recalls) c.args.recall else as_map recall_cmp c.remove_in.new.recalls) (sym c.if-remove_in.true))

pub returns-else-remove_in : goal.returns-else-remove_in
returns-else-remove_in c =
    taken (as_map recall_cmp c.args.recalls.now) (as_map recall_cmp c.remove_in.new.recalls) (as_map recall_cmp c.remove_in.new.recalls) c.args.recall c.args.item.now c.remove_in.result
    c.remove_in.ensures.left c.remove_in.ensures.emptied c.remove_in.ensures.none
    (ap (λ b. if b then remove (as_map recall_cmp c.remove_in.new.recalls) c.args.recall else as_map recall_cmp c.remove_in.new.recalls) (sym c.if-remove_in.false))
